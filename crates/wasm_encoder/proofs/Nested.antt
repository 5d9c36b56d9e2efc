-- A nested component: its commands on a builder of their own, step by step.
use Rattle.std.proofs.Common.{◌≡◌, ℕ, List, [], ◌++◌, Ok, Err, Result, Option, inl, inr, refl, ap, ◌∙◌, Vec, String}
use mathlib.Core.Former.{Count}
use Rattle.wenc_base.specs.Prelude.{IsAmong, NoCause}
use Rattle.wenc_builder.specs.Prelude.{Enters, Entry, EntryCause, Holds, State, component_entry}
use Rattle.wenc_builder.specs.Prelude.{items, whole}
use Rattle.wenc_base.specs.declared.fault.Fault.{Fault}
use Rattle.std.specs.Option.{option_map}
use Rattle.std.specs.String.{string_bytes}
use Rattle.wasm_encoder.specs.Prelude.{Answers, Command, CommandTree, Commands, IsRefusal, Nest}
use Rattle.wasm_encoder.specs.Prelude.{StepsLeft, added, cause, command_view, commands_view}
use Rattle.wasm_encoder.specs.Prelude.{first_cause, indexed, led, no_more, then}
use Rattle.wasm_encoder.specs.Command.{row_view}
use Rattle.wasm_encoder.specs.declared.command.Command.{Row_of-Command, end_of-Command, more_of-Command, items-the_row-Command}
use Rattle.wasm_encoder.specs.declared.command.Command.{items_hidden-the_row-Command-0}
use Rattle.wasm_encoder.specs.declared.command.Command as commands
use Rattle.wasm_encoder.proofs.Called.{refusal_as, entered}

-- ---- what its commands are seen as

listed_row : {A : Type 0} (n : _) (row : Row_of-Command A n) → row_view row ≡ commands_view (items-the_row-Command A n row)
listed_row n end_of-Command = refl
listed_row n (more_of-Command c rest) = ap (λ (cs : Commands). then (command_view c) cs) (listed_row _ rest)

abbrev row_of : {A : Type 0} → Command A → (n : Count) × Row_of-Command A n
row_of (commands.Component' n shape row) = (_, row)
row_of _ = (_, end_of-Command)

pub component_view : {A : Type 0} (n : Option (String A)) (inner : Vec (Command A) A)
    → command_view (commands.Component n inner) ≡ Nest (option_map string_bytes n) (commands_view inner.items)
component_view {A} n inner =
    let row = row_of (commands.Component n inner) in
    ap (λ (cs : Commands). Nest (option_map string_bytes n) cs) (listed_row row.0 row.1 ∙ ap commands_view (items_hidden-the_row-Command-0 A inner))

-- ---- its commands

-- Those so far were accepted: what is left leads to what all lead to, and has the causes that all
-- have.
pub record InnerSo (all left : Commands) (s : State) : Type 0 where
  pub so_far : List Entry
  pub held : Holds s so_far
  pub leads : led [] all ≡ led so_far left
  pub causes : (fault : Fault) → first_cause so_far left fault → first_cause [] all fault
  pub clears : NoCause (first_cause so_far left) → NoCause (first_cause [] all)

pub inner_more : (all left : Commands) (c : CommandTree) (i : Option ℕ) (old new : State) → InnerSo all (then c left) old
    → Answers old new (Ok i) c → InnerSo all left new
inner_more all left c i old new r a =
    let s = a.held r.so_far r.held in
    record {
      so_far = r.so_far ++ added r.so_far c;
      held = s.0;
      leads = r.leads;
      causes = λ fault x. r.causes fault (inr (s.1.1, x));
      clears = λ none. r.clears (λ fault x. elim x [ inl here ↦ s.1.1 fault here | inr later ↦ none fault later.1 ]);
    }

pub inner_refused : (all left : Commands) (c : CommandTree) (fault : Fault) (old new : State) → InnerSo all (then c left) old
    → Answers old new (Err fault) c → IsRefusal (first_cause [] all) fault
inner_refused all left c fault old new r a = refusal_as (cause r.so_far c) (first_cause [] all) (λ f x. r.causes f (inl x)) fault ((a.held r.so_far r.held).1)

pub inner_stopped : (all left : Commands) (c : CommandTree) (fault : Fault) (old new : State) → InnerSo all (then c left) old
    → StepsLeft old new fault c → IsRefusal (first_cause [] all) fault
inner_stopped all left c fault old new r stop =
    refusal_as (cause r.so_far c) (first_cause [] all) (λ f x. r.causes f (inl x)) fault (stop.stops.refused r.so_far r.held)

pub inner_all : (all : Commands) (s : State) → InnerSo all no_more s → Holds s (led [] all) × NoCause (first_cause [] all)
inner_all all s r = (rw r.leads r.held, r.clears (λ fault c. c))

-- ---- the command

-- its commands were refused
pub refused_inside : (name : Option (List ℕ)) (inner : Commands) (fault : Fault) (s : State) → IsRefusal (first_cause [] inner) fault
    → Answers s s (Err fault) (Nest name inner)
refused_inside name inner fault s r = record { held = λ es h. (h, refusal_as (first_cause [] inner) (cause es (Nest name inner)) (λ f c. inl c) fault r) }

-- they were accepted, and what they led to was handed in
pub entered_inside : (name : Option (List ℕ)) (inner : Commands) (old new : State) (r : Result ℕ Fault) → NoCause (first_cause [] inner)
    → Enters old new r (component_entry name (whole (items (led [] inner)))) → Answers old new (indexed r) (Nest name inner)
entered_inside name inner old new r none e = entered old new r (Nest name inner) (component_entry name (whole (items (led [] inner)))) (λ es. refl) caused e
  where
    caused : (es : List Entry) → IsAmong (EntryCause es (component_entry name (whole (items (led [] inner))))) (cause es (Nest name inner))
    caused es = (λ fault c. inr (none, c), λ free fault x. elim x [ inl c ↦ none fault c | inr p ↦ free fault p.1 ])
