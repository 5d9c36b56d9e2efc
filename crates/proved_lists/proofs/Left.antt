-- Sections that are left, after one more.
use Rattle.std.proofs.Common.{◌≡◌, ℕ, List, [], Option, Some, None}
use Rattle.std.specs.Prelude.{MatchOption}
use Rattle.wenc_base.specs.Prelude.{EndsWith}
use Rattle.wenc_list.specs.Prelude.{Opens}
use Rattle.wenc_list.specs.declared.cursor.SectionItems.{SectionItems}
use Rattle.wenc_list.specs.declared.cursor.Sections.{Sections}

pub one_more : ((ends : ℕ) (bytes before rest : List ℕ) (s : SectionItems) → EndsWith bytes before → Opens ends before s rest → EndsWith bytes rest)
    → (bytes : List ℕ) (old new : Sections) (next : Option SectionItems) → EndsWith bytes old.rest.now
    → MatchOption next (old.rest.now ≡ []) (λ s. Opens old.ends old.rest.now s new.rest.now)
    → MatchOption next (new ≡ old) (λ s. Unit {0}) → EndsWith bytes new.rest.now
one_more law bytes old new None e taken same = rw same e
one_more law bytes old new (Some s) e taken same = law old.ends bytes old.rest.now new.rest.now s e taken
