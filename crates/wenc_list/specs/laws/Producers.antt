-- Why the readers of producers find what is read and nothing else.
use Rattle.std.proofs.Common.{◌≡◌, ℕ, List, [], ◌∷◌, Result, Ok, Err, refl}
use Rattle.wenc_base.specs.Prelude.{Flaw, Producers, Sound, Wide, all_read, last_tells, list}
use Rattle.wenc_base.specs.Prelude.{list_lawful, list_sound, made, name_sound, producer}
use Rattle.wenc_base.specs.Prelude.{producers_field, producers_field_lawful, read_list}
use Rattle.wenc_base.specs.Prelude.{read_producer, read_producers_field, then_tells}
use Rattle.wenc_read.specs.Prelude.{IsExact, exact_by}
use Rattle.wenc_list.specs.Prelude.{Part, parts_in, producers_parts}

pub producer_sound : Sound producer read_producer
producer_sound = then_tells _ name_sound (λ tool. last_tells
    (λ version. record { tool = tool; version = version }) name_sound
    (λ version middle rest r bytes p. (middle, p, r)))

producers_field_sound : Sound producers_field read_producers_field
producers_field_sound = then_tells _ name_sound (λ field. last_tells
    (λ tools. record { field = field; tools = tools }) (list_sound producer_sound)
    (λ tools middle rest r bytes p. (middle, p, r)))

fields_exact : IsExact (list producers_field) (read_list read_producers_field)
fields_exact = exact_by (list_sound producers_field_sound) (list_lawful producers_field_lawful)

on_found : (found : Result (List Producers × List ℕ) Flaw) (fields : List Producers)
    → found ≡ Ok (fields, []) → made producers_parts (all_read found) ≡ Ok (producers_parts fields)
on_found found fields e = rw e refl

-- the parts of the fields that all of the bytes are read as
pub fields_found : (fields : List Producers) (bytes : List ℕ)
    → (list producers_field fields).Reads Wide bytes [] → parts_in bytes ≡ Ok (producers_parts fields)
fields_found fields bytes r = on_found (read_list read_producers_field bytes) fields
    ((fields_exact bytes).read_is_given fields [] r)

-- no other parts
pub parts_are_read : (bytes : List ℕ) (ps : List Part) → parts_in bytes ≡ Ok ps
    → (fields : List Producers) × (list producers_field fields).Reads Wide bytes []
    × (ps ≡ producers_parts fields)
parts_are_read bytes ps = told (read_list read_producers_field bytes) refl
  where
    told : (found : Result (List Producers × List ℕ) Flaw)
        → read_list read_producers_field bytes ≡ found
        → made producers_parts (all_read found) ≡ Ok ps
        → (fields : List Producers) × (list producers_field fields).Reads Wide bytes []
        × (ps ≡ producers_parts fields)
    told (Ok (fields, [])) e h = (fields, (fields_exact bytes).given_is_read fields [] e, cc)
    told (Ok (fields, b ∷ rest)) e h = absurd cc
    told (Err flaw) e h = absurd cc
