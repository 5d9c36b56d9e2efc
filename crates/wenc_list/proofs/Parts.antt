-- A part of producers, and those after it.
use Rattle.std.proofs.Common.{◌≡◌, ℕ, zero, suc, ◌-◌, ◌<◌, List, [], ◌∷◌, ◌++◌, Result, Ok, Err, map, refl, sym, ap, ◌∙◌, arith}
use native.Mathlib.Numerals.{unary_clauses}
use Rattle.wenc_base.specs.Prelude.{Bad, Flaw, Producer, Producers, Reader, Wide, all_read, done}
use Rattle.wenc_base.specs.Prelude.{give, go_on, name, name_lawful, name_sound, producer}
use Rattle.wenc_base.specs.Prelude.{producer_lawful, read_list, read_name, read_producer}
use Rattle.wenc_base.specs.Prelude.{read_producers_field, read_u32, times, u32, u32_lawful}
use Rattle.wenc_base.specs.Prelude.{u32_sound, ◌>>=◌, ◌⨾◌}
use Rattle.wenc_list.specs.Prelude.{IsNoField, IsNoNumber, IsNoTool, Part, producers_parts}
use Rattle.wenc_list.specs.Prelude.{with_part}
use Rattle.wenc_list.specs.Producers.{Field, Tool, read_parts}
use Rattle.wenc_list.specs.laws.Producers.{producer_sound}
use Rattle.wenc_read.specs.Prelude.{exact_by}

abbrev Found : Type 0 → Type 0
Found A = Result (A × List ℕ) Flaw

-- the fields, after tools
abbrev fields_behind : ℕ → List Producer → Reader (List Part)
fields_behind k ts = times read_producers_field k >>= λ fs. give (map Tool ts ++ producers_parts fs)

-- ---- a field

others_after : (f : List ℕ) (ts : List Producer) (found : Found (List Producers))
    → all_read (go_on (go_on found (λ fs. give (record { field = f; tools = ts } ∷ fs)))
    (λ fs. give (producers_parts fs)))
    ≡ with_part (Field f) (all_read (go_on found (λ fs. give (map Tool ts ++ producers_parts fs))))
others_after f ts (Ok (fs, [])) = refl
others_after f ts (Ok (fs, b ∷ rest)) = refl
others_after f ts (Err flaw) = refl

-- the fields, the first of which was found
abbrev fields_from : ℕ → Found Producers → Result (List Part) Flaw
fields_from k found =
    all_read (go_on (go_on found (λ v. times read_producers_field k >>= λ vs. give (v ∷ vs)))
    (λ fs. give (producers_parts fs)))

tools_inside : (f : List ℕ) (k : ℕ) (found : Found (List Producer))
    → fields_from k (go_on found (λ ts. give (record { field = f; tools = ts })))
    ≡ with_part (Field f) (all_read (go_on found (fields_behind k)))
tools_inside f k (Ok (ts, rest)) = others_after f ts (times read_producers_field k rest)
tools_inside f k (Err flaw) = refl

counted : (f : List ℕ) (m k : ℕ) (rest : List ℕ) (found : Found ℕ) → found ≡ Ok (m, rest)
    → fields_from k
    (go_on (go_on found (times read_producer)) (λ ts. give (record { field = f; tools = ts })))
    ≡ with_part (Field f) (done (read_parts m k) rest)
counted f m k rest found e = rw e (tools_inside f k (times read_producer m rest))

named : (f : List ℕ) (m k : ℕ) (middle rest : List ℕ) (found : Found (List ℕ))
    → found ≡ Ok (f, middle) → read_u32 middle ≡ Ok (m, rest)
    → fields_from k (go_on found
    (λ f. read_list read_producer >>= λ ts. give (record { field = f; tools = ts })))
    ≡ with_part (Field f) (done (read_parts m k) rest)
named f m k middle rest found e c = rw e (counted f m k rest (read_u32 middle) c)

pub field_taken : (f : List ℕ) (m tools fields : ℕ) (bytes middle rest : List ℕ) → tools ≡ 0
    → 0 < fields → read_name bytes ≡ Ok (f, middle) → read_u32 middle ≡ Ok (m, rest)
    → done (read_parts tools fields) bytes
    ≡ with_part (Field f) (done (read_parts m (fields - 1)) rest)
field_taken f m zero (suc k) bytes middle rest t l e c =
    simp unary_clauses (named f m k middle rest (read_name bytes) e c)
field_taken f m zero zero bytes middle rest t l e c = absurd (omega arith)
field_taken f m (suc n) fields bytes middle rest t l e c = absurd cc

-- ---- what was read

pub number_read : (n : ℕ) (bytes rest : List ℕ) → read_u32 bytes ≡ Ok (n, rest) → (u32 n).Reads Wide bytes rest
number_read n bytes rest e = (exact_by u32_sound u32_lawful bytes).given_is_read n rest e

pub tool_read : (t : Producer) (bytes rest : List ℕ) → read_producer bytes ≡ Ok (t, rest) → (producer t).Reads Wide bytes rest
tool_read t bytes rest e = (exact_by producer_sound producer_lawful bytes).given_is_read t rest e

pub field_read : (f : List ℕ) (m : ℕ) (bytes middle rest : List ℕ) → read_name bytes ≡ Ok (f, middle) → read_u32 middle ≡ Ok (m, rest)
    → (name f ⨾ u32 m).Reads Wide bytes rest
field_read f m bytes middle rest e c =
    (middle, (exact_by name_sound name_lawful bytes).given_is_read f middle e, number_read m middle rest c)

-- ---- no part

pub no_number : (bytes : List ℕ) → read_u32 bytes ≡ Err Bad → IsNoNumber bytes
no_number bytes e n rest r =
    let l = u32_lawful n in
    let found : read_u32 bytes ≡ Ok (n, rest) = l.finds l.depth (omega arith) Wide bytes rest r in
    absurd cc

pub no_tool : (bytes : List ℕ) → read_producer bytes ≡ Err Bad → IsNoTool bytes
no_tool bytes e t rest r =
    let l = producer_lawful t in
    let found : read_producer bytes ≡ Ok (t, rest) = l.finds l.depth (omega arith) Wide bytes rest r in
    absurd cc

pub no_name : (bytes : List ℕ) → read_name bytes ≡ Err Bad → IsNoField bytes
no_name bytes e f m rest r =
    let l = name_lawful f in
    let found : read_name bytes ≡ Ok (f, r.0) = l.finds l.depth (omega arith) Wide bytes r.0 r.1 in
    absurd cc

abbrev behind : Found (List ℕ) → List ℕ
behind (Ok x) = x.1
behind (Err flaw) = []

clash : (one other : List ℕ) (m : ℕ) (rest : List ℕ) → one ≡ other → read_u32 one ≡ Err Bad
    → read_u32 other ≡ Ok (m, rest) → ⊥
clash one other m rest e bad good = absurd cc

-- The name ends in one place, and no number follows it there.
pub no_count : (f : List ℕ) (bytes middle : List ℕ) → read_name bytes ≡ Ok (f, middle)
    → read_u32 middle ≡ Err Bad → IsNoField bytes
no_count f bytes middle e c g m rest r =
    let l = name_lawful g in
    let k = u32_lawful m in
    let named : read_name bytes ≡ Ok (g, r.0) = l.finds l.depth (omega arith) Wide bytes r.0 r.1 in
    let counted : read_u32 r.0 ≡ Ok (m, rest) = k.finds k.depth (omega arith) Wide r.0 rest r.2 in
    clash middle r.0 m rest (ap behind (sym e ∙ named)) c counted

nameless : (k : ℕ) (found : Found (List ℕ)) → found ≡ Err Bad
    → fields_from k (go_on found
    (λ f. read_list read_producer >>= λ ts. give (record { field = f; tools = ts }))) ≡ Err Bad
nameless k found e = rw e refl

uncounted : (k : ℕ) (f : List ℕ) (found : Found ℕ) → found ≡ Err Bad
    → fields_from k
    (go_on (go_on found (times read_producer)) (λ ts. give (record { field = f; tools = ts })))
    ≡ Err Bad
uncounted k f found e = rw e refl

named_only : (k : ℕ) (f : List ℕ) (middle : List ℕ) (found : Found (List ℕ))
    → found ≡ Ok (f, middle) → read_u32 middle ≡ Err Bad
    → fields_from k (go_on found
    (λ f. read_list read_producer >>= λ ts. give (record { field = f; tools = ts }))) ≡ Err Bad
named_only k f middle found e c = rw e (uncounted k f (read_u32 middle) c)

pub unread_name : (tools fields : ℕ) (bytes : List ℕ) → tools ≡ 0 → 0 < fields
    → read_name bytes ≡ Err Bad → done (read_parts tools fields) bytes ≡ Err Bad
unread_name zero (suc k) bytes t l e = nameless k (read_name bytes) e
unread_name zero zero bytes t l e = absurd (omega arith)
unread_name (suc n) fields bytes t l e = absurd cc

pub unread_count : (f : List ℕ) (tools fields : ℕ) (bytes middle : List ℕ) → tools ≡ 0 → 0 < fields
    → read_name bytes ≡ Ok (f, middle) → read_u32 middle ≡ Err Bad
    → done (read_parts tools fields) bytes ≡ Err Bad
unread_count f zero (suc k) bytes middle t l e c = named_only k f middle (read_name bytes) e c
unread_count f zero zero bytes middle t l e c = absurd (omega arith)
unread_count f (suc n) fields bytes middle t l e c = absurd cc
