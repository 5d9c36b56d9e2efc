-- What remains to be written of the type of a function, from stage to stage.
use Rattle.std.proofs.Common.{◌≡◌, ℕ, Bool, false, List, [], ◌∷◌, ◌++◌, ap}
use Rattle.wenc_base.specs.Forms.{list}
use Rattle.wenc_types.specs.DefinedTypes.{LabelledType, labelled_type, async_byte}
use Rattle.wenc_types.specs.FuncStages.{BeforeParams, params_from, Remains, RestMakesWhole}
use Rattle.wenc_types.specs.declared.encoders.func_type.FuncStage.{FuncStage}
use Rattle.wenc_types.specs.declared.encoders.func_type.FuncStage.TheVariants.{Start, Tagged, Params, Done}

-- after the byte that tells whether it is asynchronous
after_tag : (is_async : Bool) (bytes : List ℕ) → Remains Tagged bytes → Remains Start (async_byte is_async ∷ bytes)
after_tag is_async bytes r = record {
  value =
      record { is_async = is_async; params = r.value.0; answer = r.value.1 };
  fits = r.fits;
  is =
      ap (λ (t : List ℕ). async_byte is_async ∷ t) r.is;
}

-- after the parameters
after_params : (stage : FuncStage) (params : List LabelledType) (bytes : List ℕ)
    → BeforeParams stage → (params_from stage params).Fits → Remains Params bytes
    → Remains stage ((params_from stage params).text ++ bytes)
after_params Start params bytes before fit r =
    after_tag false ((list labelled_type params).text ++ bytes)
    (record {
      value = (params, r.value);
      fits = (fit, r.fits);
      is =
          ap (λ (t : List ℕ). (list labelled_type params).text ++ t) r.is;
    })
after_params Tagged params bytes before fit r =
    record {
      value = (params, r.value);
      fits = (fit, r.fits);
      is =
          ap (λ (t : List ℕ). (list labelled_type params).text ++ t) r.is;
    }
after_params Params params bytes before fit r = absurd before
after_params Done params bytes before fit r = absurd before

module _ {T : Type 0} (is_whole : T → Type 0) (written : T → List ℕ → T)
    (joins : (x : T) (text more : List ℕ) → written (written x text) more
    ≡ written x (text ++ more)) (old new : T) where
  pub tag_goes_on : (is_async : Bool) → new ≡ written old (async_byte is_async ∷ [])
      → RestMakesWhole is_whole written Start old → RestMakesWhole is_whole written Tagged new
  tag_goes_on is_async e whole text r = rw (e, joins old (async_byte is_async ∷ []) text)
      (whole (async_byte is_async ∷ text) (after_tag is_async text r))

  pub params_go_on : (stage : FuncStage) (params : List LabelledType) → BeforeParams stage
      → new ≡ written old (params_from stage params).text → (params_from stage params).Fits
      → RestMakesWhole is_whole written stage old → RestMakesWhole is_whole written Params new
  params_go_on stage params before e fit whole text r =
      let lead : List ℕ = (params_from stage params).text in
      rw (e, joins old lead text) (whole (lead ++ text) (after_params stage params text before fit r))
