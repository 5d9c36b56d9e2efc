-- A call of a builder is a command's answer.
use Rattle.std.proofs.Common.{◌≡◌, ℕ, List, [], ◌∷◌, ◌++◌, Result, Ok, Err, Option, Some, None, option_to_list, refl, sym, subst, append-nil}
use Rattle.std.proofs.lemmas.Option.{same_Some}
use Rattle.std.specs.Option.{MatchOption}
use Rattle.std.specs.Result.{MatchResult}
use Rattle.wenc_base.specs.Prelude.{IsAmong, IsMemory, IsWarranted, NoCause, itself_among}
use Rattle.wenc_base.specs.Prelude.{still_warranted}
use Rattle.wenc_base.specs.declared.fault.Fault.TheVariants.{Memory, TooMany, TooLarge, Unfinished}
use Rattle.wenc_builder.specs.Prelude.{AddsNames, Enters, EntersWithoutIndex, Entry, EntryCause}
use Rattle.wenc_builder.specs.Prelude.{Holds, Item, State, index_of, items, named_entry}
use Rattle.wenc_builder.specs.Prelude.{names_entry}
use Rattle.wenc_sections.specs.Prelude.{Subsection}
use Rattle.wenc_base.specs.declared.fault.Fault.{Fault}
use Rattle.wenc_builder.specs.laws.Answered.{answered, answered_with}
use Rattle.wenc_builder.specs.laws.EntryCause.{entry_never_unfinished}
use Rattle.wasm_encoder.specs.Prelude.{Add, Answers, AppendNames, CommandTree, IsRefusal, added}
use Rattle.wasm_encoder.specs.Prelude.{cause, index_added, indexed, without_index}
use Rattle.wasm_encoder.specs.Cause.{added_cause}

-- what warrants an entry's refusal is never that something is unfinished
pub refusal : (es : List Entry) (x : Entry) (fault : Fault) → IsWarranted (EntryCause es x) fault → IsRefusal (EntryCause es x) fault
refusal es x fault w = (w, λ e. entry_never_unfinished es x (subst (IsWarranted (EntryCause es x)) e w))

-- want of memory may refuse what has any cause
pub memory_alone : (cause : Fault → Type 0) (fault : Fault) → IsMemory fault → IsRefusal cause fault
memory_alone cause (Memory e) m = (tt, λ same. cc)
memory_alone cause TooMany m = absurd m
memory_alone cause TooLarge m = absurd m
memory_alone cause Unfinished m = absurd m

-- a refusal for a cause that follows
pub refusal_as : (one other : Fault → Type 0) → ((fault : Fault) → one fault → other fault) → (fault : Fault) → IsRefusal one fault → IsRefusal other fault
refusal_as one other leads fault r = (still_warranted one other leads fault r.0, r.1)

-- After these entries an answer is due to a command that adds these, and leaves them held.
abbrev pub IsDueTo : List Entry → List Entry → (Fault → Type 0) → State → Result (Option ℕ) Fault → Type 0
IsDueTo es xs cause new (Ok answer) = Holds new (es ++ xs) × (answer ≡ index_added es xs) × NoCause cause
IsDueTo es xs cause new (Err fault) = Holds new es × IsRefusal cause fault

-- That is an answer of each command which adds these, where that cause is among its own.
pub due : (old new : State) (a : Result (Option ℕ) Fault) (c : CommandTree)
    → ((es : List Entry) → Holds old es → (xs : List Entry) × (other : Fault → Type 0) × (added es c ≡ xs) × IsAmong other (cause es c)
    × IsDueTo es xs other new a) → Answers old new a c
due old new (Ok answer) c d = record {
  held = λ es h.
      let k = d es h in
      let e : k.0 ≡ added es c = sym k.2 in
      (subst (λ (xs : List Entry). Holds new (es ++ xs)) e k.4.0, (subst (λ (xs : List Entry). answer ≡ index_added es xs) e k.4.1, k.3.1 k.4.2));
}
due old new (Err fault) c d = record {
  held = λ es h. let k = d es h in (k.4.0, refusal_as k.1 (cause es c) k.3.0 fault k.4.1);
}

-- a call that adds this entry
pub entered : (old new : State) (r : Result ℕ Fault) (c : CommandTree) (x : Entry) → ((es : List Entry) → added es c ≡ x ∷ [])
    → ((es : List Entry) → IsAmong (EntryCause es x) (cause es c))
    → Enters old new r x → Answers old new (indexed r) c
entered old new r c x adds caused e =
    due old new (indexed r) c (λ es h. (x ∷ [], EntryCause es x, adds es, caused es, is_due r es (answered old new r x es e h)))
  where
    is_due : (r : Result ℕ Fault) (es : List Entry)
        → MatchResult r (λ i. Holds new (es ++ x ∷ []) × (Some i ≡ index_of (items es) x.item) × NoCause (EntryCause es x))
        (λ fault. Holds new es × IsWarranted (EntryCause es x) fault)
        → IsDueTo es (x ∷ []) (EntryCause es x) new (indexed r)
    is_due (Ok i) es a = a
    is_due (Err fault) es a = (a.0, refusal es x fault a.1)

-- a call that adds this entry alone
pub entered_alone : (old new : State) (r : Result ℕ Fault) (x : Entry) → Enters old new r x → Answers old new (indexed r) (Add x)
entered_alone old new r x e = entered old new r (Add x) x (λ es. refl) (λ es. itself_among) e

-- what is due to a call that adds this entry, which has no index
nowhere_due : (old new : State) (r : Result (Unit {0}) Fault) (es : List Entry) (x : Entry) → Holds old es
    → index_of (items es) x.item ≡ None → EntersWithoutIndex old new r x → IsDueTo es (x ∷ []) (EntryCause es x) new (without_index r)
nowhere_due old new (Ok u) es x h none e = let k = answered_with old new (Ok u) x (λ _ _. Unit {0}) (λ _ _. Unit {0}) es e h in (k.0, sym none, k.2)
nowhere_due old new (Err fault) es x h none e = let k =
    answered_with old new (Err fault) x (λ _ _. Unit {0}) (λ _ _. Unit {0}) es e h in (k.0, refusal es x fault k.1)

-- and that call
pub entered_nowhere : (old new : State) (r : Result (Unit {0}) Fault) (x : Entry) → ((es : List Entry) → index_of (items es) x.item ≡ None)
    → EntersWithoutIndex old new r x → Answers old new (without_index r) (Add x)
entered_nowhere old new r x none e =
    due old new (without_index r) (Add x) (λ es h. (x ∷ [], EntryCause es x, refl, itself_among, nowhere_due old new r es x h (none es) e))

-- the section of names has no index
names_nowhere : (xs : List Item) (names : List Subsection) (x : Entry) → named_entry names ≡ Some x → index_of xs x.item ≡ None
names_nowhere xs [] x e = absurd cc
names_nowhere xs (n ∷ names) x e = subst (λ (y : Entry). index_of xs y.item ≡ None) (same_Some _ x e) refl

-- the call that adds the names so far
pub names_entered : (old new : State) (r : Result (Unit {0}) Fault) → AddsNames old new r → Answers old new (without_index r) AppendNames
names_entered old new r a = due old new (without_index r) AppendNames
    (λ es h. (
      option_to_list (names_entry es),
      added_cause es (option_to_list (names_entry es)),
      refl,
      itself_among,
      is_due r es (names_entry es) h (names_nowhere (items es) _) (a.held es h),
    ))
  where
    is_due : (r : Result (Unit {0}) Fault) (es : List Entry) (o : Option Entry) → Holds old es → ((x : Entry) → o ≡ Some x → index_of (items es) x.item ≡ None)
        → MatchOption o ((r ≡ Ok tt) × (new ≡ old)) (λ x. EntersWithoutIndex old new r x)
        → IsDueTo es (option_to_list o) (added_cause es (option_to_list o)) new (without_index r)
    is_due (Ok u) es None h none m = (rw (m.1, append-nil es) h, refl, λ fault c. c)
    is_due (Err fault) es None h none m = absurd cc
    is_due r es (Some x) h none m = nowhere_due old new r es x h (none x refl) m
