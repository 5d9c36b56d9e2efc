-- Why a call is refused.
use Rattle.std.specs.Prelude.{ℕ, ◌≤◌, ◌^◌, ◌⊎◌, List, [], ◌∷◌, length}
use Rattle.wenc_base.specs.declared.fault.Fault.{Fault}
use Rattle.wenc_base.specs.declared.fault.Fault.TheVariants.{Memory, TooMany, TooLarge, Unfinished}

-- the number of a fault
abbrev pub fault_number : Fault → ℕ
fault_number (Memory e) = 1
fault_number TooMany = 2
fault_number TooLarge = 3
fault_number Unfinished = 4

-- A call may fail with this fault: for a failed allocation, or with this cause.
abbrev pub IsWarranted : (Fault → Type 0) → Fault → Type 0
IsWarranted cause (Memory e) = Unit {0}
IsWarranted cause fault = cause fault

-- it has no cause
abbrev pub NoCause : (Fault → Type 0) → Type 0
NoCause cause = (fault : Fault) → cause fault → ⊥

-- one cause, or another
abbrev pub either : (Fault → Type 0) → (Fault → Type 0) → Fault → Type 0
either one other fault = one fault ⊎ other fault

-- why this many bytes can't be a string, or follow their size: their number exceeds 32 bits
abbrev pub size_cause : ℕ → Fault → Type 0
size_cause n TooLarge = 2 ^ 32 ≤ n
size_cause n other = ⊥

-- why this many values can't be a list: their number exceeds 32 bits
abbrev pub count_cause : ℕ → Fault → Type 0
count_cause n TooMany = 2 ^ 32 ≤ n
count_cause n other = ⊥

-- the cause of one thing or, if that has none, of the next: the first error takes precedence
abbrev pub first_of : (Fault → Type 0) → (Fault → Type 0) → Fault → Type 0
first_of one next fault = one fault ⊎ (NoCause one × next fault)

-- the cause of the first of the values that has one
abbrev pub member_cause : {A : Type 0} → (A → Fault → Type 0) → List A → Fault → Type 0
member_cause cause [] fault = ⊥
member_cause cause (v ∷ vs) fault = first_of (cause v) (member_cause cause vs) fault

-- why a list can't be encoded: for its number of values, or for one of them
abbrev pub list_cause : {A : Type 0} → (A → Fault → Type 0) → List A → Fault → Type 0
list_cause cause vs = first_of (count_cause (length vs)) (member_cause cause vs)

-- why values that come one by one can't be a list: for one of them, or for their number
abbrev pub drawn_cause : {A : Type 0} → (A → Fault → Type 0) → List A → Fault → Type 0
drawn_cause cause vs = first_of (member_cause cause vs) (count_cause (length vs))

-- The fault is a failed allocation.
abbrev pub IsMemory : Fault → Type 0
IsMemory = IsWarranted (λ fault. ⊥)
