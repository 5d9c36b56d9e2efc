-- What the encoder of core types writes is a whole member of its parent.
use Rattle.std.proofs.Common.{◌≡◌, ℕ, Bool, true, false, List, [], ◌∷◌, ◌++◌, map}
use Rattle.wenc_base.specs.Prelude.{Composite, Func, MakesWhole, Rec, RecType, Single, Sub, ValType}
use Rattle.wenc_base.specs.Prelude.{composite_type, final, list, listed_serves, serves_itself}
use Rattle.wenc_base.specs.Prelude.{standing, sub_type, val_type, ◌▸◌}
use Rattle.wenc_base.specs.laws.Parents.{whole_for}

module _ {T : Type 0} (is_whole : T → Type 0) (written : T → List ℕ → T) where
  -- a final type without supertype, with guards or without
  pub final_ends : (x : T) (guard : Bool) → ((g : RecType) → MakesWhole is_whole written x (standing guard g))
      → (c : Composite) → MakesWhole is_whole written x (composite_type c)
  final_ends x true whole c = whole (Single (final c))
  final_ends x false whole c = whole (Single (final c))

  -- a function type, whose parameters have been written
  pub function_ends : ((x : T) (text more : List ℕ) → written (written x text) more ≡ written x (text ++ more)) → (x mid : T) (guard : Bool)
      → ((g : RecType) → MakesWhole is_whole written x (standing guard g)) → (params : List ValType)
      → mid ≡ written x (0x60 ▸ list val_type params).text → (list val_type params).Fits
      → (results : List ValType) → MakesWhole is_whole written mid (list val_type results)
  function_ends joins x mid guard whole params e fit results fits =
      rw (e, joins x (0x60 ▸ list val_type params).text (list val_type results).text) (final_ends x guard whole (Func params results) (fit, fits))

  -- types that refer to each other
  pub group_ends : {A : Type 0} (view : A → Sub) (x : T) (guard : Bool) → ((g : RecType) → MakesWhole is_whole written x (standing guard g))
      → (types : List A) → MakesWhole is_whole written x (0x4e ▸ list (λ s. sub_type (view s)) types)
  group_ends view x true whole types = whole_for is_whole written x (listed_serves (λ s. sub_type (view s)) view sub_type
      (λ s. serves_itself) (0x4e ∷ []) types) (whole (Rec (map view types)))
  group_ends view x false whole types = whole_for is_whole written x (listed_serves (λ s. sub_type (view s)) view sub_type
      (λ s. serves_itself) (0x4e ∷ []) types) (whole (Rec (map view types)))
