-- The options of a name, read one after the other.
use Rattle.std.proofs.Common.{◌≡◌, ◌≢◌, ◌<◌, ℕ, zero, suc, true}
use Rattle.std.proofs.Common.{nat_lt, List, ◌∷◌, Result, Ok, Err, refl}
use Rattle.std.proofs.Common.{subst, lt-ltb}
use Rattle.wenc_base.specs.Readers.{Flaw, Bad, Deep, ◌>>=◌, go_on, give, times}
use Rattle.wenc_base.specs.laws.Sound.{Told, Fewer, Several, times_told}
use Rattle.wenc_parts.specs.Imports.{NameOption, name_option}
use Rattle.wenc_parts.specs.laws.Imports.{name_option_sound}
use Rattle.wenc_parts.specs.reading.Imports.{read_name_option}
use Rattle.wenc_parts.specs.reading.Imports.{option_number, ascend_from, given_options}
use Rattle.wenc_view.specs.inside.ExternNames.{ascending, read_options}

abbrev Found : Type 0
Found = Result (List NameOption × List ℕ) Flaw

-- an option that comes too late
is_late : (text : List ℕ) (least n : ℕ) (o : NameOption) (bytes middle : List ℕ) → read_name_option bytes ≡ Ok (o, middle)
    → nat_lt (option_number o) least ≡ true → read_options text least (suc n) bytes ≡ Err Bad
is_late text least n o bytes middle e lt = rw e (behind (times read_name_option n middle) (times_told (λ bytes. ⊥) name_option_sound n middle))
  where
    behind : (found : Found) → Told (Several name_option n middle) (Fewer name_option (λ bytes. ⊥) n middle) found
        → go_on (go_on found (λ os. give (o ∷ os))) (ascending text least) ≡ Err Bad
    behind (Ok x) t = rw (lt, ascend_from) refl
    behind (Err Bad) t = refl
    behind (Err Deep) t = absurd t.4

-- where there are some, it is enough that they ascend
pub some_ascend : (text : List ℕ) (n : ℕ) (bytes : List ℕ) → (times read_name_option (suc n) >>= given_options text) bytes ≡ read_options text 0 (suc n) bytes
some_ascend text n bytes = first (read_name_option bytes)
  where
    behind : (o : NameOption) (found : Found) → go_on (go_on found (λ os. give (o ∷ os))) (given_options text)
        ≡ go_on (go_on found (λ os. give (o ∷ os))) (ascending text 0)
    behind o (Err flaw) = refl
    behind o (Ok x) = refl

    first : (found : Result (NameOption × List ℕ) Flaw) → go_on (go_on found (λ o. times read_name_option n >>= λ os. give (o ∷ os)))
        (given_options text) ≡ go_on (go_on found (λ o. times read_name_option n >>= λ os. give (o ∷ os))) (ascending text 0)
    first (Err flaw) = refl
    first (Ok x) = behind x.0 (times read_name_option n x.1)

pub some_given : (text : List ℕ) (count : ℕ) (bytes : List ℕ) → count ≢ 0 → (times read_name_option count >>= given_options text) bytes
    ≡ read_options text 0 count bytes
some_given text zero bytes some = absurd (some refl)
some_given text (suc n) bytes some = some_ascend text n bytes

pub late : (text : List ℕ) (least count number : ℕ) (o : NameOption) (bytes middle : List ℕ) → count ≢ 0
    → read_name_option bytes ≡ Ok (o, middle) → number ≡ option_number o → number < least → read_options text least count bytes ≡ Err Bad
late text least zero number o bytes middle some e is lt = absurd (some refl)
late text least (suc n) number o bytes middle some e is lt = is_late text least n o bytes middle e (lt-ltb _ _ (subst (λ (k : _). k < least) is lt))
