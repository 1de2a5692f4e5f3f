-- What a function that reads or writes answers, against what a definition gives.
use Rattle.std.specs.Prelude.{◌≡◌, ℕ, Bool, true, false, List, ◌++◌, Result, Ok, Err}
use Rattle.std.specs.Global.{Vec}
use Rattle.sctp_wire_types.specs.declared.error.Error.{Error}
use Rattle.sctp_wire_types.specs.declared.error.Error.TheVariants as errors
use Rattle.sctp_wire_types.specs.declared.error.Fault.{Fault}
use Rattle.sctp_wire_types.specs.declared.error.Fault.TheVariants.{Long}
use Rattle.sctp_wire.specs.declared.error.WireError.{WireError}
use Rattle.sctp_wire.specs.declared.error.WireError.TheVariants as wire

infixl 10 ◌>>=◌
abbrev pub ◌>>=◌ : {A B : Type 0} → Result A Fault → (A → Result B Fault) → Result B Fault
(Ok x) >>= f = f x
(Err e) >>= f = Err e

-- the error is the fault that the definition gives, or memory ran out
abbrev pub IsFaultOrNoMemory : {Y : Type 0} → WireError → Result Y Fault → Type 0
IsFaultOrNoMemory wire.NoMemory given = Unit {0}
IsFaultOrNoMemory (wire.Malformed f) given = given ≡ Err f

-- the answer is what the definition gives, its value or its first fault, or memory ran out
abbrev pub Yields : {Y : Type 0} → Result Y WireError → Result Y Fault → Type 0
Yields (Ok x) given = given ≡ Ok x
Yields (Err e) given = IsFaultOrNoMemory e given

-- the answer and the bytes that are left are what the definition gives, or the error is its first fault, or memory ran
-- out
abbrev pub Takes : {Y : Type 0} → Result Y WireError → List ℕ → Result (Y × List ℕ) Fault → Type 0
Takes (Ok x) left given = given ≡ Ok (x, left)
Takes (Err e) left given = IsFaultOrNoMemory e given

-- the bytes were written at the end, all of them, where they fit; refused as too long where they do not; or memory ran
-- out
abbrev pub Appends : Result (Unit {0}) WireError → Bool → List ℕ → List ℕ → List ℕ → Type 0
Appends (Ok _) fits old new bytes = (fits ≡ true) × (new ≡ old ++ bytes)
Appends (Err wire.NoMemory) fits old new bytes = Unit {0}
Appends (Err (wire.Malformed f)) fits old new bytes = (fits ≡ false) × (f ≡ Long)

-- a buffer of these bytes was made, where they fit
abbrev pub Builds : Result (Vec ℕ) WireError → Bool → List ℕ → Type 0
Builds (Ok made) fits bytes = (fits ≡ true) × (made.items ≡ bytes)
Builds (Err wire.NoMemory) fits bytes = Unit {0}
Builds (Err (wire.Malformed f)) fits bytes = (fits ≡ false) × (f ≡ Long)

-- the same for the errors that a caller of the wire layer sees
abbrev pub error_of : WireError → Error
error_of wire.NoMemory = errors.ErrNoMemory
error_of (wire.Malformed f) = errors.Malformed f

abbrev pub Refuses : {Y : Type 0} → Error → Result Y Fault → Type 0
Refuses errors.ErrNoMemory given = Unit {0}
Refuses (errors.Malformed f) given = given ≡ Err f
Refuses _ given = ⊥

abbrev pub Gives : {Y : Type 0} → Result Y Error → Result Y Fault → Type 0
Gives (Ok x) given = given ≡ Ok x
Gives (Err e) given = Refuses e given
