-- What the code writes of instances serves as their forms.
use Rattle.std.proofs.Common.{ℕ, List, refl, map, inl, inr}
use Rattle.wenc_base.specs.Prelude.{Form, Piece, Serves, both_serve, core_export_kind as core_kind}
use Rattle.wenc_base.specs.Prelude.{in_order, list, list_in_order, list_serves, listed, lists_serve}
use Rattle.wenc_base.specs.Prelude.{name, nothing, order_serves, pair, right_free, serves_itself}
use Rattle.wenc_base.specs.Prelude.{serves_then, tagged_serves, three_serve, two_serve, u32}
use Rattle.wenc_base.specs.Prelude.{with_nothing, ◌▸◌, ◌⨾◌}
use Rattle.wenc_sections.specs.Pairs.{triple}
use Rattle.wenc_parts.specs.Prelude.{ExternName, component_export_kind, extern_name}
use Rattle.wenc_parts.specs.Prelude.{module_argument}
use Rattle.wenc_base.specs.declared.exports.ExportKind.{ExportKind}
use Rattle.wenc_parts.specs.declared.exports.ComponentExportKind.{ComponentExportKind}
use Rattle.wenc_parts.specs.declared.instances.ModuleArg.{ModuleArg}
use Rattle.wenc_sections.specs.Instances.{CoreInstantiate, CoreExports, core_instance, Instantiate}
use Rattle.wenc_sections.specs.Instances.{Exports, instance, named_pair, named_triple}

tag_first : (b : ℕ) (p q : Piece) → Serves ((b ▸ p) ⨾ q) (b ▸ (p ⨾ q))
tag_first b p q = record { text = refl; fits = λ h. h; among = λ fault c. c; free = λ none. none }

nothing_before : (p : Piece) → Serves (nothing ⨾ p) p
nothing_before p = record {
  text = refl;
  fits = λ h. h.1;
  among =
      λ fault c. elim c [ inl none ↦ absurd none | inr own ↦ own ];
  free = right_free;
}

-- a list of values, after a byte and a number or after a byte alone: as a holder adds it, and as
-- a tree writes it
module _ {A S : Type 0} (one : Form A) (seen : A → S) (form : Form S)
    (serves : (v : A) → Serves (one v) (form (seen v))) where
  led_serves : (b : ℕ) (p : Piece) (vs : List A) → Serves (listed (b ▸ p) one nothing vs)
      (b ▸ (p ⨾ list form (map seen vs)))
  led_serves b p vs =
      let values : Serves (list one vs ⨾ nothing) (list form (map seen vs)) =
      serves_then (with_nothing {p = list one vs}) (lists_serve one seen form serves vs) in
      serves_then (tag_first b p (list one vs ⨾ nothing)) (tagged_serves b (both_serve (serves_itself {p = p}) values))

  alone_serves : (b : ℕ) (vs : List A) → Serves (listed (b ▸ nothing) one nothing vs) (b ▸ list form (map seen vs))
  alone_serves b vs = serves_then (led_serves b nothing vs) (tagged_serves b (nothing_before (list form (map seen vs))))

  numbered_serves : (b n : ℕ) (vs : List A) → Serves (b ▸ in_order (u32 n) (list_in_order one vs))
      (b ▸ (u32 n ⨾ list form (map seen vs)))
  numbered_serves b n vs =
      tagged_serves b (order_serves (serves_itself {p = u32 n}) (list_serves one seen form serves vs))

  tagged_list_serves : (b : ℕ) (vs : List A) → Serves (b ▸ list_in_order one vs) (b ▸ list form (map seen vs))
  tagged_list_serves b vs = tagged_serves b (list_serves one seen form serves vs)

-- ---- pairs and triples, by how their names are written

module _ {N S : Type 0} (written : Form N) (seen : N → S) (form : Form S)
    (as_form : (n : N) → Serves (written n) (form (seen n))) where
  pair_serves : {A : Type 0} (second : Form A) (p : N × A)
      → Serves (in_order (written p.0) (second p.1)) (pair form second (named_pair seen p))
  pair_serves second p = order_serves (as_form p.0) (serves_itself {p = second p.1})

  triple_serves : {A B : Type 0} (second : Form A) (third : Form B) (t : N × A × B)
      → Serves (in_order (written t.0) (in_order (second t.1) (third t.2)))
      (triple form second third (named_triple seen t))
  triple_serves second third t = order_serves (as_form t.0) (two_serve (second t.1) (third t.2))

-- ---- instances, by how their names are written

module _ {N : Type 0} (written : Form N) (named : N → List ℕ)
    (as_name : (n : N) → Serves (written n) (name (named n))) where
  abbrev pub argument_written : Form (N × ModuleArg)
  argument_written a = in_order (written a.0) (module_argument a.1)

  abbrev pub core_export_written : Form (N × ExportKind × ℕ)
  core_export_written e = in_order (written e.0) (in_order (core_kind e.1) (u32 e.2))

  abbrev pub given_written : Form (N × ComponentExportKind × ℕ)
  given_written g = in_order (written g.0) (in_order (component_export_kind g.1) (u32 g.2))

  argument_serves : (a : N × ModuleArg) → Serves (argument_written a) (pair name module_argument (named_pair named a))
  argument_serves = pair_serves written named name as_name module_argument

  core_export_serves : (e : N × ExportKind × ℕ) → Serves (core_export_written e)
      (triple name core_kind u32 (named_triple named e))
  core_export_serves = triple_serves written named name as_name core_kind u32

  given_serves : (g : N × ComponentExportKind × ℕ) → Serves (given_written g)
      (triple name component_export_kind u32 (named_triple named g))
  given_serves = triple_serves written named name as_name component_export_kind u32

  pub core_instantiate_listed : (index : ℕ) (vs : List (N × ModuleArg))
      → Serves (listed (0x00 ▸ u32 index) argument_written nothing vs)
      (core_instance (CoreInstantiate index (map (named_pair named) vs)))
  core_instantiate_listed index = led_serves argument_written (named_pair named)
      (pair name module_argument) argument_serves 0x00 (u32 index)

  pub core_instantiate_serves : (index : ℕ) (vs : List (N × ModuleArg))
      → Serves (0x00 ▸ in_order (u32 index) (list_in_order argument_written vs))
      (core_instance (CoreInstantiate index (map (named_pair named) vs)))
  core_instantiate_serves = numbered_serves argument_written (named_pair named)
      (pair name module_argument) argument_serves 0x00

  pub core_exports_listed : (vs : List (N × ExportKind × ℕ))
      → Serves (listed (0x01 ▸ nothing) core_export_written nothing vs)
      (core_instance (CoreExports (map (named_triple named) vs)))
  core_exports_listed = alone_serves core_export_written (named_triple named)
      (triple name core_kind u32) core_export_serves 0x01

  pub core_exports_serve : (vs : List (N × ExportKind × ℕ))
      → Serves (0x01 ▸ list_in_order core_export_written vs)
      (core_instance (CoreExports (map (named_triple named) vs)))
  core_exports_serve = tagged_list_serves core_export_written (named_triple named)
      (triple name core_kind u32) core_export_serves 0x01

  pub instantiate_listed : (index : ℕ) (vs : List (N × ComponentExportKind × ℕ))
      → Serves (listed (0x00 ▸ u32 index) given_written nothing vs)
      (instance (Instantiate index (map (named_triple named) vs)))
  instantiate_listed index = led_serves given_written (named_triple named)
      (triple name component_export_kind u32) given_serves 0x00 (u32 index)

  pub instantiate_serves : (index : ℕ) (vs : List (N × ComponentExportKind × ℕ))
      → Serves (0x00 ▸ in_order (u32 index) (list_in_order given_written vs))
      (instance (Instantiate index (map (named_triple named) vs)))
  instantiate_serves = numbered_serves given_written (named_triple named)
      (triple name component_export_kind u32) given_serves 0x00

module _ {N : Type 0} (seen : N → ExternName) where
  abbrev pub exported_written : Form (N × ComponentExportKind × ℕ)
  exported_written e = in_order (extern_name (seen e.0)) (in_order (component_export_kind e.1) (u32 e.2))

  exported_serves : (e : N × ComponentExportKind × ℕ) → Serves (exported_written e)
      (triple extern_name component_export_kind u32 (named_triple seen e))
  exported_serves e = three_serve (extern_name (seen e.0)) (component_export_kind e.1) (u32 e.2)

  pub exports_listed : (vs : List (N × ComponentExportKind × ℕ))
      → Serves (listed (0x01 ▸ nothing) exported_written nothing vs)
      (instance (Exports (map (named_triple seen) vs)))
  exports_listed = alone_serves exported_written (named_triple seen)
      (triple extern_name component_export_kind u32) exported_serves 0x01

  -- by the form itself
  abbrev inline_exports : Form (N × ComponentExportKind × ℕ)
  inline_exports e = triple extern_name component_export_kind u32 (named_triple seen e)

  pub exports_serve : (vs : List (N × ComponentExportKind × ℕ))
      → Serves (0x01 ▸ list_in_order inline_exports vs)
      (instance (Exports (map (named_triple seen) vs)))
  exports_serve = tagged_list_serves inline_exports (named_triple seen)
      (triple extern_name component_export_kind u32) (λ e. serves_itself {p = inline_exports e}) 0x01
