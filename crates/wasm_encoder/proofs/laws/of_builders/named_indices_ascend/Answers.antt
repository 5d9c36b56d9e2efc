use Rattle.wasm_encoder.proofs.NamedIndices.{ascending, below, led_nameless, all_viewed}
use Rattle.std.proofs.Common.{ℕ, ◌<◌, subst}
use Rattle.std.specs.List.{AllByRecursion}
use Rattle.wenc_builder.specs.Entry.{names}
use Rattle.wasm_encoder.proofs.CountedOnce.{next_counted}
use Rattle.wasm_encoder.proofs.laws.of_builders.named_indices_ascend.Goals as goal

pub returns-clause-ascending : goal.returns-clause-ascending
returns-clause-ascending g c = ascending

pub returns-clause-below : goal.returns-clause-below
returns-clause-below g c = below

pub returns-clause-below_count : goal.returns-clause-below_count
returns-clause-below_count g c s es space h nameless =
    subst (λ (count : ℕ). AllByRecursion (λ n. n.index < count) (names es space)) (next_counted s es space h) (below es space nameless)

pub returns-clause-led_to : goal.returns-clause-led_to
returns-clause-led_to g c = led_nameless

pub returns-clause-viewed : goal.returns-clause-viewed
returns-clause-viewed g c = all_viewed
