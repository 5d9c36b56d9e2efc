use Rattle.std.proofs.Common.{◌≡◌, ℕ, refl, sym, ◌∙◌, inl, inr}
use Rattle.wenc_list.specs.declared.fault.ListFault.TheVariants.{Memory, TooDeep}
use Rattle.wenc_base.specs.Piece.{Wide}
use Rattle.wenc_builder.specs.Sections.{runs, whole}
use Rattle.wasm_encoder.proofs.laws.of_listings.listed.Goals as goal

memory_is_no_depth : {place : ℕ} → Memory ≡ TooDeep place → ⊥
memory_is_no_depth e = absurd cc

pub returns-clause-sections : goal.returns-clause-sections
returns-clause-sections c xs no_raw fits ss =
    c.one_reading.ensures.of_items Wide xs ss no_raw fits

pub returns-clause-no_fault : goal.returns-clause-no_fault
returns-clause-no_fault c xs no_raw fits within fault stands =
    let reading = (c.one_reading.ensures.of_items Wide xs (runs xs) no_raw fits).1 refl in
    c.faults_of_what_is_read.ensures.no_fault (whole xs) (runs xs) reading within fault stands

pub returns-clause-too_deep : goal.returns-clause-too_deep
returns-clause-too_deep c xs no_raw fits fault stands =
    let reading = (c.one_reading.ensures.of_items Wide xs (runs xs) no_raw fits).1 refl in
    elim (c.faults_of_what_is_read.ensures.too_deep (whole xs) (runs xs) reading fault stands) [
      | inl is_memory ↦ inl is_memory
      | inr is_deep ↦ inr (
        is_deep.0,
        is_deep.1,
        λ within.
            memory_is_no_depth (sym (c.faults_of_what_is_read.ensures.no_fault (whole xs) (runs xs) reading within fault stands) ∙ is_deep.1),
      )
    ]
