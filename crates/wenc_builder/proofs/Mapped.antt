-- The names of a space.
use Rattle.std.proofs.Common.{◌≡◌, ℕ, ◌+◌, ◌<◌, ◌≤◌, ◌^◌, inl, inr, List, ◌++◌, length, length-take-le, Option, Some, None, refl, arith}
use Rattle.std.proofs.lemmas.Bool.{cases_lt}
use Rattle.wenc_base.specs.Prelude.{Accepted, HolderState, NameAssociation, content_size, cut_to}
use Rattle.wenc_base.specs.Prelude.{name_association}
use Rattle.wenc_base.specs.declared.fault.Fault.{Fault}
use Rattle.wenc_base.specs.declared.fault.Fault.TheVariants.{TooMany, TooLarge}
use Rattle.wenc_base.proofs.Groups.{size_monotone}
use Rattle.wenc_builder.specs.Prelude.{NamesFit, Namespace, SpaceCause, namespace_with, space_view}
use Rattle.wenc_builder.specs.laws.Caused.{space_free}

-- one name more that was accepted
pub named_fit : (old new : HolderState) (n : NameAssociation) → NamesFit old → Accepted (name_association n) old new → NamesFit new
named_fit old new n fits a = rw a.state (rw fits.0 refl, counted, sized)
  where
    counted : old.count + 1 < 2 ^ 32
    counted = elim (cases_lt (old.count + 1) (2 ^ 32)) [ inl less ↦ less | inr many ↦ absurd (a.free TooMany (inr (inl many))) ]

    sized : content_size (old.count + 1) (length (old.body ++ (name_association n).text)) < 2 ^ 32
    sized = elim (cases_lt (content_size (old.count + 1) (length (old.body ++ (name_association n).text))) (2 ^ 32))
        [ inl less ↦ less | inr large ↦ absurd (a.free TooLarge (inr (inl large))) ]

-- the first names
pub cut_fit : (old new : HolderState) (now : Namespace) (items count len : ℕ) → new ≡ cut_to old count len → NamesFit old
    → space_view items old.count old.body ≡ now → count ≤ now.named → len ≤ length now.names → NamesFit new
cut_fit old new now items count len e fits view less within =
    let fewer : count ≤ old.count = rw (← view) at less in
    let shorter : len ≤ length old.body = rw (← view) at within in
    rw e (rw fits.0 refl, omega (arith, fewer, fits.1), omega (arith, fits.2, size_monotone count old.count fewer, length-take-le len old.body shorter))

-- nothing is against more items without a name
pub unnamed_free : (h : HolderState) (count number : ℕ) → NamesFit h → count + number < 2 ^ 32 → (fault : Fault)
    → SpaceCause (namespace_with (space_view count h.count h.body) number None) fault → ⊥
unnamed_free h count number fits less = space_free (namespace_with (space_view count h.count h.body) number None) less fits.1 fits.2

-- nor against those of which the first has a name that was accepted
pub named_free : (old new : HolderState) (now : Namespace) (count number : ℕ) (given : Option (List ℕ)) (name : List ℕ) → NamesFit old
    → Accepted (name_association (record { index = count; name = name })) old new
    → space_view count old.count old.body ≡ now → given ≡ Some name → count + number < 2 ^ 32 → (fault : Fault)
    → SpaceCause (namespace_with now number given) fault → ⊥
named_free old new now count number given name fits a view is less =
    let more = rw a.state at (named_fit old new (record { index = count; name = name }) fits a) in
    rw (← view, is) (space_free (namespace_with (space_view count old.count old.body) number (Some name)) less more.1 more.2)
