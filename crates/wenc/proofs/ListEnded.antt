-- What the steps of a run of `list` make of the whole.
use Rattle.std.proofs.Common.{◌≡◌, ℕ, ◌⊎◌, List, [], ◌++◌, Option, Some, Result, Ok, Err, refl, sym, ap, ◌∙◌, arith, inl, inr}
use Rattle.std.specs.Prelude.{Vec}
use Rattle.std.specs.Io.KnownBytes.{Appends}
use Rattle.wenc_list.specs.declared.fault.ListFault.{ListFault}
use Rattle.wenc_list.specs.declared.fault.ListFault.TheVariants.{Memory}
use Rattle.wenc.specs.declared.unlisted.Unlisted.{Unlisted}
use Rattle.wenc.specs.declared.unlisted.Unlisted.TheVariants.{BadText, Fault, Transfer}
use Rattle.wenc.specs.Prelude.{AppendsFront, EndsListing, IsWholeRun, ListsText, ReadsListing}
use Rattle.wenc.specs.Prelude.{ReportsUnlisted, Says, fault_line, listing_text}
use Rattle.wenc.specs.ListRun.{IsFaultIn, PrintsListing, PrintsListingFront}
use Rattle.wenc.specs.inside.ListSteps.{NotReadAndListed}
use Rattle.wenc.proofs.Ended.{keeps_same, whole_known, appended_known}

-- what is listed of all that was read
pub listed_whole : {A : Type 0} (r : Result (Vec ℕ A) Unlisted) (left ended : Option (List ℕ)) (text : List ℕ) → IsWholeRun left ended text
    → ListsText r text → ReadsListing r left ended
listed_whole (Ok printed) left ended text whole h = (text, whole, h)
listed_whole (Err BadText) left ended text whole h = (text, whole, h)
listed_whole (Err (Fault fault)) left ended text whole (inl memory) = inl memory
listed_whole (Err (Fault fault)) left ended text whole (inr fault_in) = inr (text, whole, fault_in)
listed_whole (Err Transfer) left ended text whole h = absurd h

-- what is printed was written, or a write failed
pub listing_ends : {A : Type 0} (printed : Vec ℕ A) (result : ℕ) (left ended before after errors : Option (List ℕ)) → ReadsListing (Ok printed) left ended
    → Says result 0 printed.items before after → EndsListing A result left ended before after errors errors
listing_ends {A} printed result left ended before after errors r says =
    let same : printed.items ≡ listing_text r.2.0 = r.2.2 in
    let known = whole_known left ended r.0 r.1 in
    record {
      known = grind (arith, says);
      zero = λ s all old l b.
          let app : Appends before after printed.items = grind (arith, says) in
          let w : PrintsListing A all old (old ++ printed.items) =
          record { listing = r.2.0; lists = rw (← (known all l).0) r.2.1; writes = ap (λ (x : List ℕ). old ++ x) same } in
          (old ++ printed.items, appended_known before after old _ app b, (known all l).1, w, keeps_same errors);
      one = grind (arith, says);
      three = grind (arith, says);
      four = λ s all old l b.
          let f : AppendsFront before after printed.items = grind (arith, says) in
          let w : PrintsListingFront A all old (old ++ f.sent) =
          record {
            listing = r.2.0;
            lists = rw (← (known all l).0) r.2.1;
            sent = f.sent;
            missing = f.missing;
            front =
                sym same ∙ f.front;
            writes = refl;
          } in
          (old ++ f.sent, appended_known before after old f.sent f.appends b, inl ((known all l).1, w, keeps_same errors));
    }

module _ (A : Type 0) (result : ℕ) (left ended before errors reported : Option (List ℕ)) where
  ends_with_4 : result ≡ 4 → EndsListing A result left ended before before errors reported
  ends_with_4 four = grind arith

  whole_cause : (fault : ListFault) → (fault ≡ Memory) ⊎ ((text : List ℕ) × IsWholeRun left ended text × IsFaultIn text fault)
      → (all : List ℕ) → left ≡ Some all
      → (fault ≡ Memory) ⊎ ((ended ≡ Some []) × IsFaultIn all fault)
  whole_cause fault (inl memory) all l = inl memory
  whole_cause fault (inr f) all l = let k = whole_known left ended f.0 f.1 all l in inr (k.1, rw (← k.0) f.2)

  -- status 3: there was no memory, or the text has this fault
  ends_with_fault : (fault : ListFault) → (fault ≡ Memory) ⊎ ((text : List ℕ) × IsWholeRun left ended text × IsFaultIn text fault)
      → result ≡ 3 → Appends errors reported (fault_line fault)
      → EndsListing A result left ended before before errors reported
  ends_with_fault fault cause three app = record {
    known = grind arith;
    zero = grind arith;
    one = grind arith;
    three = λ s all l. (refl, record { fault = fault; cause = whole_cause fault cause all l; names = app });
    four = grind arith;
  }

  -- nothing was printed
  pub unlisted_ends : (unlisted : Unlisted) → NotReadAndListed unlisted left ended → ReportsUnlisted result unlisted errors reported
      → EndsListing A result left ended before before errors reported
  unlisted_ends BadText r says = grind (arith, whole_known left ended r.0 r.1)
  unlisted_ends (Fault fault) r (inl (inl s)) = ends_with_fault fault r s.0 s.1
  unlisted_ends (Fault fault) r (inr (inl s)) = ends_with_fault Memory (inl refl) s.0 s.1
  unlisted_ends (Fault fault) r (inl (inr f)) = ends_with_4 f.0
  unlisted_ends (Fault fault) r (inr (inr f)) = ends_with_4 f.0
  unlisted_ends Transfer r f = ends_with_4 f.0
