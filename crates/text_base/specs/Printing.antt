-- A text that is printed while another is read: what calls print, and what the devices give and take.
use Rattle.std.specs.Prelude.{◌≡◌, ◌≢◌, ℕ, ◌+◌, ◌^◌, ◌<◌, ◌≤◌, List, [], ◌++◌, length, Option, Some, None, Result, Ok, Err, MatchResult, OnOk}
use Rattle.std.specs.Io.KnownBytes.{Appends}
use Rattle.text_base.specs.declared.device.DeviceFault.{DeviceFault}
use Rattle.text_base.specs.declared.fault.Stop.{Stop}
use Rattle.text_base.specs.declared.fault.Stop.TheVariants.{Input as InputStops, Memory as MemoryStops}
use Rattle.text_base.specs.declared.fault.Fault.{Fault}
use Rattle.text_base.specs.declared.fault.Fault.TheVariants.{Input, Memory, Read, Long, Write}

-- In what follows an input of the text can be at fault in the ways of F.

-- What is printed in all, and the fault of the input that it ends with, if any.
pub record Printed (F : Type 0) : Type 0 where
  pub printed : List ℕ
  pub fault : Option F

-- what is printed before goes in front
abbrev pub behind : {F : Type 0} → List ℕ → Printed F → Printed F
behind printed p = record { printed = printed ++ p.printed; fault = p.fault }

-- In what follows IsIt tells which text is meant.

-- what was printed is the beginning of the text
abbrev pub IsBegun : {F : Type 0} → (Printed F → Type 0) → List ℕ → Type 0
IsBegun {F} IsIt printed =
    (text : Printed F) → IsIt text → (more : List ℕ) × (text.printed ≡ printed ++ more)

-- the text ends with this fault, and all of it was printed; where memory was wanted, it was begun
abbrev pub StopsIn : {F : Type 0} → Stop F → (Printed F → Type 0) → List ℕ → Type 0
StopsIn (InputStops fault) IsIt printed = IsIt (record { printed = printed; fault = Some fault })
StopsIn MemoryStops IsIt printed = IsBegun IsIt printed

-- where a device failed, or the input is too long, the text was begun too
abbrev pub EndsIn : {F : Type 0} → Fault F → (Printed F → Type 0) → List ℕ → Type 0
EndsIn (Input fault) IsIt printed = IsIt (record { printed = printed; fault = Some fault })
EndsIn Memory IsIt printed = IsBegun IsIt printed
EndsIn Read IsIt printed = IsBegun IsIt printed
EndsIn Long IsIt printed = IsBegun IsIt printed
EndsIn Write IsIt printed = IsBegun IsIt printed

-- what a printer's fault is of the whole
abbrev pub fault_of : {F : Type 0} → Stop F → Fault F
fault_of (InputStops fault) = Input fault
fault_of MemoryStops = Memory

-- what a printer answered, where all that it printed was written
abbrev pub answer_of : {F : Type 0} → Result (Unit {0}) (Stop F) → Result (Unit {0}) DeviceFault
    → Result (Unit {0}) (Fault F)
answer_of read (Err fault) = Err Write
answer_of (Ok done) (Ok all) = Ok tt
answer_of (Err stop) (Ok all) = Err (fault_of stop)

-- which text an input has
abbrev pub Texts : Type 0 → Type 1
Texts F = List ℕ → Printed F → Type 0

-- how far a printer has come: that it has read these octets, and they have printed these
abbrev pub Progress : Type 1
Progress = List ℕ → List ℕ → Type 0

-- In what follows IsText is such a text, HadRead and HasRead how far a printer had and has come. Of an input at most
-- 2^60 octets are read.

-- these octets were read, and what they print was added; it is the beginning of the text, whatever follows
pub record Reads {F : Type 0} (IsText : Texts F) (HadRead : Progress)
    (octets before after : List ℕ) (HasRead : Progress) : Type 0 where
  pub printed : List ℕ
  pub added : after ≡ before ++ printed
  pub goes_on : (past lines : List ℕ) → length past + length octets ≤ 2 ^ 60 → HadRead past lines
      → HasRead (past ++ octets) (lines ++ printed)
  pub begun : (past lines : List ℕ) → length past + length octets ≤ 2 ^ 60 → HadRead past lines
      → (left : List ℕ) → IsBegun (IsText (past ++ (octets ++ left))) (lines ++ printed)

-- these octets ended the text with a fault, whatever follows
pub record Stops {F : Type 0} (IsText : Texts F) (stop : Stop F) (HadRead : Progress)
    (octets before after : List ℕ) : Type 0 where
  pub printed : List ℕ
  pub added : after ≡ before ++ printed
  pub ends : (past lines : List ℕ) → length past + length octets ≤ 2 ^ 60 → HadRead past lines
      → (left : List ℕ) → StopsIn stop (IsText (past ++ (octets ++ left))) (lines ++ printed)
  pub begun : (past lines : List ℕ) → length past + length octets ≤ 2 ^ 60 → HadRead past lines
      → (left : List ℕ) → IsBegun (IsText (past ++ (octets ++ left))) (lines ++ printed)

abbrev pub ReadsOrStops : {F : Type 0} → Texts F → Result (Unit {0}) (Stop F) → Progress
    → List ℕ → List ℕ → List ℕ → Progress → Type 0
ReadsOrStops IsText result HadRead octets before after HasRead =
    MatchResult result
    (λ done. Reads IsText HadRead octets before after HasRead)
    (λ stop. Stops IsText stop HadRead octets before after)

-- this is all that the text prints, and no fault ends it
abbrev pub IsWhole : {F : Type 0} → (Printed F → Type 0) → List ℕ → Type 0
IsWhole IsIt printed = IsIt (record { printed = printed; fault = None })

-- nothing is left to read, and what the text prints then was added
pub record Ends {F : Type 0} (IsText : Texts F) (result : Result (Unit {0}) (Stop F))
    (HadRead : Progress) (before after : List ℕ) : Type 0 where
  pub printed : List ℕ
  pub added : after ≡ before ++ printed
  pub ends : (past lines : List ℕ) → length past ≤ 2 ^ 60 → HadRead past lines
      → MatchResult result
      (λ done. IsWhole (IsText past) (lines ++ printed))
      (λ stop. StopsIn stop (IsText past) (lines ++ printed))
  pub begun : (past lines : List ℕ) → length past ≤ 2 ^ 60 → HadRead past lines
      → IsBegun (IsText past) (lines ++ printed)

-- The same onto what was written, where that is known.

-- octets were written: all of them, or, after a failure, a prefix of them
pub record Writes (result : Result (Unit {0}) DeviceFault) (octets : List ℕ)
    (old new : Option (List ℕ)) : Type 0 where
  pub written : List ℕ
  pub more : List ℕ
  pub split : octets ≡ written ++ more
  pub added : Appends old new written
  pub ends : OnOk result (more ≡ [])

-- these octets were read, and what they print was written
pub record Passes {F : Type 0} (IsText : Texts F) (HadRead : Progress) (octets : List ℕ)
    (before after : Option (List ℕ)) (HasRead : Progress) : Type 0 where
  pub printed : List ℕ
  pub added : Appends before after printed
  pub goes_on : (past lines : List ℕ) → length past + length octets ≤ 2 ^ 60 → HadRead past lines
      → HasRead (past ++ octets) (lines ++ printed)
  pub begun : (past lines : List ℕ) → length past + length octets ≤ 2 ^ 60 → HadRead past lines
      → (left : List ℕ) → IsBegun (IsText (past ++ (octets ++ left))) (lines ++ printed)

-- among these octets the text ended with a fault, after what was written
pub record Breaks {F : Type 0} (IsText : Texts F) (fault : Fault F) (HadRead : Progress)
    (octets : List ℕ) (before after : Option (List ℕ)) : Type 0 where
  pub printed : List ℕ
  pub added : Appends before after printed
  pub ends : (past lines : List ℕ) → length past + length octets ≤ 2 ^ 60 → HadRead past lines
      → (left : List ℕ) → EndsIn fault (IsText (past ++ (octets ++ left))) (lines ++ printed)

abbrev pub PassesOrBreaks : {F : Type 0} → Texts F → Result (Unit {0}) (Fault F) → Progress → List ℕ
    → Option (List ℕ) → Option (List ℕ) → Progress → Type 0
PassesOrBreaks IsText result HadRead octets before after HasRead =
    MatchResult result
    (λ done. Passes IsText HadRead octets before after HasRead)
    (λ fault. Breaks IsText fault HadRead octets before after)

-- the text was printed to its end, or a fault ended it
abbrev pub IsEnd : {F : Type 0} → Result (Unit {0}) (Fault F) → (Printed F → Type 0) → List ℕ
    → Type 0
IsEnd result IsIt printed =
    MatchResult result (λ done. IsWhole IsIt printed) (λ fault. EndsIn fault IsIt printed)

-- nothing is left to read, and what the text prints then was written
pub record Closes {F : Type 0} (IsText : Texts F) (result : Result (Unit {0}) (Fault F))
    (HadRead : Progress) (before after : Option (List ℕ)) : Type 0 where
  pub printed : List ℕ
  pub added : Appends before after printed
  pub ends : (past lines : List ℕ) → length past ≤ 2 ^ 60 → HadRead past lines
      → IsEnd result (IsText past) (lines ++ printed)

-- all of a text was written, or, where a device failed or memory was wanted, a prefix of it
pub record Prints {F : Type 0} (result : Result (Unit {0}) (Fault F)) (IsIt : Printed F → Type 0)
    (old new : Option (List ℕ)) : Type 0 where
  pub printed : List ℕ
  pub added : Appends old new printed
  pub ends : IsEnd result IsIt printed

-- what each fault tells of the call that answers it: that a read failed in it, that the input is too long, that a write
-- failed in it, or, of the others, that no device did
abbrev pub IsDevices : {F : Type 0} → Fault F → Type 0 → Type 0 → Type 0 → Type 0 → Type 0
IsDevices (Input fault) read_failed is_long write_failed none_failed = none_failed
IsDevices Memory read_failed is_long write_failed none_failed = none_failed
IsDevices Read read_failed is_long write_failed none_failed = read_failed
IsDevices Long read_failed is_long write_failed none_failed = is_long
IsDevices Write read_failed is_long write_failed none_failed = write_failed

-- A FAULT OF A DEVICE IS ANSWERED WHERE THAT DEVICE FAILED IN THE CALL, and nowhere else: how often its reads have failed
-- before the call and behind it, and its writes; whatever failed before excuses nothing. That of an input that is too
-- long is answered only where it is
abbrev pub FailsByDevices : {F : Type 0} → ℕ → Result (Unit {0}) (Fault F) → ℕ → ℕ → ℕ → ℕ → List ℕ → Type 0
FailsByDevices longest result reads reads' writes writes' input =
    MatchResult result
    (λ done. (reads' ≡ reads) × (writes' ≡ writes))
    (λ fault. IsDevices fault
    ((reads' ≢ reads) × (writes' ≡ writes))
    ((longest < length input) × (reads' ≡ reads) × (writes' ≡ writes))
    ((reads' ≡ reads) × (writes' ≢ writes))
    ((reads' ≡ reads) × (writes' ≡ writes)))

-- the same of what only writes
abbrev pub FailsBySink : {F : Type 0} → Result (Unit {0}) (Fault F) → ℕ → ℕ → Type 0
FailsBySink result writes writes' =
    MatchResult result (λ done. writes' ≡ writes)
    (λ fault. IsDevices fault ⊥ ⊥ (writes' ≢ writes) (writes' ≡ writes))
