-- What copies are.
use Rattle.std.proofs.Common.{◌≡◌, List, [], ◌∷◌, ◌++◌, map, Option, Some, None, refl, sym, ap, ◌∙◌}
use Rattle.std.proofs.Common.{append_assoc}
use Rattle.std.proofs.lemmas.List.{append-nil, map-id, map_push}
use Rattle.std.specs.Option.{option_map}
use Rattle.wenc_decode.specs.Copies.{AreCopies, OptionCopies}

pub copies_push : {T V A : Type 0} (IsCopy : T → V → Type 0) (view : V
    → A) (ts : List T) (ms : List A) (t : T) (v : V) → AreCopies IsCopy view ts ms → IsCopy t v
    → AreCopies IsCopy view (ts ++ t ∷ []) (ms ++ view v ∷ [])
copies_push IsCopy view [] [] t v h k = ((v, k, refl), tt)
copies_push IsCopy view [] (m ∷ ms) t v h k = absurd h
copies_push IsCopy view (u ∷ ts) [] t v h k = absurd h
copies_push IsCopy view (u ∷ ts) (m ∷ ms) t v h k = (h.0, copies_push IsCopy view ts ms t v h.1 k)

-- where a copy is seen as what it is a copy of, the copies are seen as the members
pub copies_are : {T V A : Type 0} (IsCopy : T → V → Type 0) (view : V → A) (f : T → A)
    → ((t : T) (v : V) → IsCopy t v → f t ≡ view v) → (ts : List T) (ms : List A)
    → AreCopies IsCopy view ts ms → map f ts ≡ ms
copies_are IsCopy view f same [] [] h = refl
copies_are IsCopy view f same [] (m ∷ ms) h = absurd h
copies_are IsCopy view f same (t ∷ ts) [] h = absurd h
copies_are IsCopy view f same (t ∷ ts) (m ∷ ms) h = rw (
  same t h.0.0 h.0.1
      ∙ h.0.2,
  copies_are IsCopy view f same ts ms h.1,
) refl

-- where a copy equals what it is a copy of, the copies are the members
pub same_are : {A : Type 0} (ts ms : List A) → AreCopies (λ t v. t ≡ v) (λ v. v) ts ms → ts ≡ ms
same_are ts ms h =
    sym (map-id ts) ∙ copies_are (λ t v. t ≡ v) (λ v. v) (λ t. t) (λ t v h. h) ts ms h

pub option_is : {T V A : Type 0} (IsCopy : T → V → Type 0) (view : V → A) (f : T → A)
    → ((t : T) (v : V) → IsCopy t v → f t ≡ view v) → (o : Option T) (p : Option V)
    → OptionCopies IsCopy o p → option_map f o ≡ option_map view p
option_is IsCopy view f same None None h = refl
option_is IsCopy view f same None (Some v) h = absurd h
option_is IsCopy view f same (Some t) None h = absurd h
option_is IsCopy view f same (Some t) (Some v) h = ap Some (same t v h)

-- one more was copied, and others are left
pub one_copied : {T V A : Type 0} (IsCopy : T → V → Type 0) (view : V → A) (ts items : List T)
    (t : T) (v : V) (before after whole : List A) → items ≡ ts ++ t ∷ [] → IsCopy t v
    → before ≡ view v ∷ after
    → ((ms : List A) × AreCopies IsCopy view ts ms × (ms ++ before ≡ whole))
    → (ms : List A) × AreCopies IsCopy view items ms × (ms ++ after ≡ whole)
one_copied IsCopy view ts items t v before after whole e k b so =
    let next : (so.0 ++ view v ∷ []) ++ after ≡ so.0 ++ view v ∷ after = simp append_assoc in
    (so.0 ++ view v ∷ [], rw e (copies_push IsCopy view ts so.0 t v so.1 k), next ∙ rw b at so.2)

pub all_copied : {T V A : Type 0} (IsCopy : T → V → Type 0) (view : V
    → A) (ts : List T) (before whole : List A) → before ≡ []
    → ((ms : List A) × AreCopies IsCopy view ts ms × (ms ++ before ≡ whole))
    → AreCopies IsCopy view ts whole
all_copied IsCopy view ts before whole e so =
    let all : so.0 ≡ whole = sym (append-nil so.0) ∙ rw e at so.2 in
    rw all at so.1

-- the same of owned values that are seen as the members themselves
pub one_seen : {T A : Type 0} (view : T → A) (ts items : List T) (t : T) (m : A)
    (before after whole : List A) → items ≡ ts ++ t ∷ [] → view t ≡ m → before ≡ m ∷ after
    → map view ts ++ before ≡ whole → map view items ++ after ≡ whole
one_seen view ts items t m before after whole e k b so =
    let next : (map view ts ++ m ∷ []) ++ after ≡ map view ts ++ m ∷ after = simp append_assoc in
    rw (e, map_push view ts t, k) (next ∙ rw b at so)

pub all_seen : {T A : Type 0} (view : T → A) (ts : List T) (before whole : List A) → before ≡ []
    → map view ts ++ before ≡ whole → map view ts ≡ whole
all_seen view ts before whole e so = sym (append-nil (map view ts)) ∙ rw e at so
