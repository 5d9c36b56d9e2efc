-- What the steps of a run make of the whole.
use Rattle.std.proofs.Common.{◌≡◌, ℕ, ◌+◌, List, [], ◌∷◌, ◌++◌, All, Any, IsOk, IsErr, Option, Some, Result, Ok, refl, sym, ap, ◌∙◌, arith}
use Rattle.std.proofs.Common.{inl, append-nil, append_assoc, lit<}
use Rattle.std.proofs.lemmas.Fmt.{decimal_digit}
use Rattle.std.specs.Io.KnownBytes.{Appends, Keeps}
use Rattle.hex.specs.Hex.{encode_lower}
use Rattle.wenc_base.specs.Prelude.{IsMemory, fault_number}
use Rattle.wenc_base.specs.declared.fault.Fault.{Fault as FaultSpec}
use Rattle.wenc_base.specs.declared.fault.Fault.TheVariants.{Memory, TooMany, TooLarge, Unfinished}
use Rattle.wenc.specs.Prelude.{AppendsFront, EndsRun, Failure, IsWholeRun, Reads, Reported, Says}
use Rattle.wenc.specs.Prelude.{answer_line, answer_lines, fault_report, line_of, script, text_of}
use Rattle.wenc.specs.declared.failure.Failure.TheVariants.{Arguments, BadLine, Fault, Transfer}
use Rattle.wenc.specs.declared.program.Printout.{Printout}
use Rattle.wenc.specs.Printed.{printed}
use Rattle.wenc.specs.Run.{Prints, PrintsFront, no_memory}
use Rattle.wenc.specs.inside.Steps.{Translation, NotTranslated}

pub keeps_same : (a : Option (List ℕ)) → Keeps a a
keeps_same a = grind arith

-- all that was known to be left was read
pub whole_known : (left ended : Option (List ℕ)) (text : List ℕ) → IsWholeRun left ended text → (all : List ℕ) → left ≡ Some all
    → (text ≡ all) × (ended ≡ Some [])
whole_known left ended text h all l = grind (arith, append-nil {A = ℕ})

pub appended_known : (before after : Option (List ℕ)) (old bytes : List ℕ) → Appends before after bytes → before ≡ Some old → after ≡ Some (old ++ bytes)
appended_known before after old bytes h b = grind arith

-- the lines of the answers, and then the bytes, are what is printed
pub lines_then_bytes : (answers : List (Result (Option ℕ) FaultSpec)) (bytes : List ℕ)
    → answer_lines answers ++ line_of (encode_lower bytes) ≡ printed answers bytes
lines_then_bytes [] bytes = refl
lines_then_bytes (a ∷ answers) bytes =
    append_assoc (answer_line a) (answer_lines answers) (line_of (encode_lower bytes)) ∙ rw (lines_then_bytes answers bytes) refl

prints_so : (P : List (Result (Option ℕ) FaultSpec) → Type 0) {A : Type 0} (p : Printout A) (text all old : List ℕ) (t : Translation p text)
    → P t.answers → text ≡ all → Prints P all old (old ++ text_of p)
prints_so P p text all old t h e =
    let says : script all ≡ Ok t.commands = rw (← e) t.says in
    search (t.ran, ap (λ (x : List ℕ). old ++ x) t.prints)

front_so : {A : Type 0} (p : Printout A) (text all old : List ℕ) (before after : Option (List ℕ)) (t : Translation p text)
    (f : AppendsFront before after (text_of p)) → text ≡ all → PrintsFront all old (old ++ f.sent)
front_so p text all old before after t f e =
    let says : script all ≡ Ok t.commands = rw (← e) t.says in
    search (t.ran, sym t.prints ∙ f.front)

-- what was printed was written, or a write failed
pub ends_printed : {A : Type 0} (p : Printout A) (result : ℕ) (left ended before after errors : Option (List ℕ)) → Reads (Ok p) left ended
    → Says result p.status (text_of p) before after
    → EndsRun result left ended before after errors errors
ends_printed p result left ended before after errors r says =
    let t = r.2 in
    let known = whole_known left ended r.0 r.1 in
    record {
      zero = λ s all old l b.
          let w : All IsOk t.answers × Appends before after (text_of p) = grind (arith, says, t.status) in (
            old ++ text_of p,
            appended_known before after old _ w.1 b,
            (known all l).1,
            prints_so (All IsOk) p r.0 all old t w.0 (known all l).0,
            keeps_same errors,
          );
      one = grind (arith, says, t.status);
      two = λ s all old l b.
          let w : Any IsErr t.answers × Appends before after (text_of p) = grind (arith, says, t.status) in (
            old ++ text_of p,
            appended_known before after old _ w.1 b,
            inl ((known all l).1, prints_so (Any IsErr) p r.0 all old t w.0 (known all l).0, keeps_same errors),
          );
      four = λ s all old l b.
          let f : AppendsFront before after (text_of p) = grind (arith, says, t.status) in (
            old ++ f.sent,
            appended_known before after old f.sent f.appends b,
            inl ((known all l).1, front_so p r.0 all old before after t f (known all l).0, keeps_same errors),
          );
    }

-- ---- standard error

pub fault_report_memory : (fault : FaultSpec) → IsMemory fault → fault_report fault ≡ no_memory
fault_report_memory (Memory e) h = rw (decimal_digit 1 (lit< tt)) refl
fault_report_memory other h = absurd h

pub fault_reported : (fault : FaultSpec) (number : ℕ) → number ≡ fault_number fault
    → 102 ∷ 97 ∷ 117 ∷ 108 ∷ 116 ∷ 32 ∷ (48 + number) ∷ 10 ∷ [] ≡ fault_report fault
fault_reported (Memory e) number h = rw (h, decimal_digit 1 (lit< tt)) refl
fault_reported TooMany number h = rw (h, decimal_digit 2 (lit< tt)) refl
fault_reported TooLarge number h = rw (h, decimal_digit 3 (lit< tt)) refl
fault_reported Unfinished number h = rw (h, decimal_digit 4 (lit< tt)) refl

-- nothing was printed
pub ends_failed : (failure : Failure) (result : ℕ) (left ended before errors reported : Option (List ℕ)) → NotTranslated failure left ended
    → Reported result failure errors reported
    → EndsRun result left ended before before errors reported
ends_failed (BadLine line) result left ended before errors reported r says = grind (arith, whole_known left ended r.0 r.1)
ends_failed (Fault fault) result left ended before errors reported r says = grind (arith, fault_report_memory fault r)
ends_failed Transfer result left ended before errors reported r says = grind arith
ends_failed Arguments result left ended before errors reported r says = absurd r
