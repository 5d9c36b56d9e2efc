use Rattle.std.proofs.Common.{◌≡◌, Err, rules, ◌∙◌, sym, subst, [], ◌∷◌, false, refl, Result, List}
use Rattle.std.proofs.Common.{ℕ}
use Rattle.wenc_base.specs.Prelude.{Bad, Flaw, Single, Sub, choose, final_rows, give, nowhere}
use Rattle.wenc_base.specs.Prelude.{read_extension, read_list, read_types, sub_of}
use Rattle.wenc_read.specs.Prelude.{at_first, fails_on}
use Rattle.wenc_types.specs.Prelude.{Grouped, Module, read_declarations, read_module_declaration}
use Rattle.wenc_types.specs.Prelude.{read_open}
use Rattle.wenc_view.proofs.Rows.{found_alone, wraps}
use Rattle.wenc_view.proofs.SubTypes.{finals_follow}
use Rattle.wenc_view.proofs.Tables.{made_of}
use Rattle.wenc_base.specs.Prelude.{read_sub_type}
use Rattle.wenc_view.specs.CoreTypes.{core_type_lists}
use Rattle.wenc_view.specs.Members.{place_of}
use Rattle.wenc_view.specs.laws.Lists.{behind_byte, if_behind_byte}
use Rattle.wenc_view.proofs.core_type_views.CoreTypeViewView.view_of.Goals as goal

pub returns-in_ok-decls-in-80-default-clause-found : goal.returns-in_ok-decls-in-80-default-clause-found
returns-in_ok-decls-in-80-default-clause-found c = at_first _ _ 0x50 _ _ _ c.in_ok-rest.ensures.found (search rules)
    ∙ made_of Module (read_list read_module_declaration) _ _ _ c.in_ok-decls-in-80-default.ensures.found

pub returns-in-Ok-clause-found : goal.returns-in-Ok-clause-found
returns-in-Ok-clause-found c =
    let alone = wraps (λ s. s) (final_rows (λ s. s)) (final_rows (λ s. s)) ((0x50, read_extension (λ n d. sub_of false n d)) ∷ []) (finals_follow (λ s. s)
    (λ s. s)) _ _ _ c.in_ok-rest.ensures.found (search rules) in
    wraps (λ s. Grouped (Single s)) (final_rows (λ s. s)) (final_rows (λ s. Grouped (Single s))) ((0x4e, read_types Grouped) ∷ (
      0x00,
      read_open
          (λ s. Grouped (Single s)),
    ) ∷ (0x50, read_declarations Module) ∷ []) (finals_follow (λ s. Grouped (Single s)) (λ s. s)) _ _ _ c.in_ok-rest.ensures.found
    (search rules)
    ∙ rw (sym (found_alone (choose (final_rows (λ s. s)) nowhere c.args.bytes.now)) ∙ sym alone ∙ c.in-Ok.ensures.found) refl

pub returns-in-Err-clause-found : goal.returns-in-Err-clause-found
returns-in-Err-clause-found c =
    let alone = wraps (λ s. s) (final_rows (λ s. s)) (final_rows (λ s. s)) ((0x50, read_extension (λ n d. sub_of false n d)) ∷ []) (finals_follow (λ s. s)
    (λ s. s)) _ _ _ c.in_ok-rest.ensures.found (search rules) in
    rw (wraps (λ s. Grouped (Single s)) (final_rows (λ s. s)) (final_rows (λ s. Grouped (Single s))) ((0x4e, read_types Grouped) ∷ (
      0x00,
      read_open
          (λ s. Grouped (Single s)),
    ) ∷ (0x50, read_declarations Module) ∷ []) (finals_follow (λ s. Grouped (Single s)) (λ s. s)) _ _ _ c.in_ok-rest.ensures.found
    (search rules))
    (fails_on Bad (choose (final_rows (λ s. s)) nowhere c.args.bytes.now) (λ s. give (Grouped (Single s)))
    (subst (λ (found : Result (Sub × List ℕ) Flaw). found ≡ Err Bad) (alone
    ∙ found_alone (choose (final_rows (λ s. s)) nowhere c.args.bytes.now)) c.in-Err.ensures.found))

pub returns-in_ok-decls-in-80-default-clause-counted : goal.returns-in_ok-decls-in-80-default-clause-counted
returns-in_ok-decls-in-80-default-clause-counted c = behind_byte _ _ _ (place_of read_module_declaration c.in_ok-decls-in-80-default.decls ∷ []) _ c.in_ok-rest.ensures.found c.in_ok-decls-in-80-default.ensures.counted

pub returns-in_ok-types-in-78-default-clause-counted : goal.returns-in_ok-types-in-78-default-clause-counted
returns-in_ok-types-in-78-default-clause-counted c = behind_byte _ _ _ (place_of read_sub_type c.in_ok-types-in-78-default.types ∷ []) _ c.in_ok-rest.ensures.found c.in_ok-types-in-78-default.ensures.counted

pub returns-in-0-default-clause-counted : goal.returns-in-0-default-clause-counted
returns-in-0-default-clause-counted c = if_behind_byte (λ x. core_type_lists x.0) (λ x. x.1.now) _ _ _ c.guarded.result c.in_ok-rest.ensures.found c.guarded.ensures.counted
