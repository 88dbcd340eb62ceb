-- What comes of lending a buffer to a seal book.
use Rattle.std.specs.Prelude.{◌≡◌, ℕ, ◌<◌, ◌≤◌, List, length, Ok, Err, Result}
use Rattle.std.specs.Borrow.{MutBor}
use Rattle.seals.specs.declared.fault.SealFault.{SealFault}
use Rattle.seals.specs.declared.fault.SealFault.TheVariants.{Short}
use Rattle.seals.specs.declared.fault.ShortBuffer.{ShortBuffer}

-- the number of the refusal
abbrev pub seal_fault_number : SealFault → ℕ
seal_fault_number Short = 4

-- A buffer with as many elements as are needed makes a book, of which P holds; a shorter one comes back as it was.
abbrev pub MakesBook : {T Book : Type 0} → ℕ → MutBor (List T) → (Book → Type 0) → Result Book (ShortBuffer T) → Type 0
MakesBook needed buffer P (Ok book) = (needed ≤ length buffer.now) × P book
MakesBook needed buffer P (Err short) = (length buffer.now < needed) × (short.buffer.ghost_name ≡ buffer.ghost_name) × (short.buffer.now ≡ buffer.now)

-- a buffer of this length that is shorter than needed is refused; with any other the answer is as it may be
abbrev pub Lent : {A : Type 0} → ℕ → ℕ → (A → Type 0) → Result A SealFault → Type 0
Lent needed len May (Ok a) = (needed ≤ len) × May a
Lent needed len May (Err f) = (len < needed) × (f ≡ Short)

-- the buffer was refused
abbrev pub Refused : {A : Type 0} → Result A SealFault → Type 0
Refused (Ok a) = ⊥
Refused (Err f) = Unit {0}
