-- A section of values of a form fits as these, and is read as these.
use Rattle.std.proofs.Common.{◌≡◌, ℕ, List, ◌++◌, length, length-append}
use Rattle.std.specs.List.{flat_map}
use Rattle.wenc_base.specs.Prelude.{Contains, HolderState, Spelling, content_size, counted}
use Rattle.wenc_base.specs.Prelude.{held_section, section_text_of, unsigned_text}
use Rattle.wasm_encoder.specs.Prelude.{FormName, form_of, value_of}
use Rattle.wasm_encoder.specs.AllForms.{SectionsOf}
use Rattle.wasm_encoder.proofs.AllLawful.{laws_of}

pub section_fits : (f : FormName) (h : HolderState) (values : List (value_of f)) → Contains (form_of f) h values → (held_section h).Fits
    → (counted (form_of f) values).Fits
section_fits f h values c ((few, small), _) =
    let size : length (unsigned_text (length values) ++ flat_map (λ v. (form_of f v).text) values) ≡ content_size h.count (length h.body) =
    rw (c.count, c.body) (length-append (unsigned_text h.count) (flat_map (λ v. (form_of f v).text) values)) in
    (rw size small, (rw c.count few, c.fit))

pub section_read : (f : FormName) (h : HolderState) (values : List (value_of f)) → Contains (form_of f) h values → (held_section h).Fits
    → (mode : Spelling) (rest : List ℕ) → (counted (form_of f) values).Reads mode ((held_section h).text ++ rest) rest
section_read f h values c fits mode rest =
    rw (section_text_of (form_of f) h values c) ((laws_of (SectionsOf f)).text_is_read mode values rest (section_fits f h values c fits))
