-- WHETHER ALL WAS DELIVERED IN ORDER, as the user at an end b took it: each of its messages is the next that its stream's user
-- offered at end a. Streams have the numbers of their users.
use Rattle.std.specs.Prelude.{◌≡◌, ◌≢◌, ◌==◌, ◌<◌, ◌≤◌, ◌⊎◌, ℕ, suc, List, [], ◌∷◌, ◌++◌, codes, decimal, filter, map, take, slice_get, Option, None, Some, Result, Ok, Err}
use Rattle.bank_traffic.specs.Opening.{body_of, numbers_below}
use Rattle.bank_crew.specs.Jobs.{kept_by}
use Rattle.bank_crew.specs.declared.end.SetEnd.{SetEnd}
use Rattle.bank_crew.specs.declared.fault.UserFault.{UserFault}
use Rattle.bank_crew.specs.declared.report.UserReport.{UserReport}
use Rattle.set_model.specs.Rows.{stream_of}
use Rattle.run_text.specs.Absences.{absence_text}
use Rattle.run_text.specs.declared.verdict.Missing.{Missing}

-- the bodies of a stream, in order
abbrev pub of_stream : ℕ → List (List ℕ) → List (List ℕ)
of_stream stream bodies = filter (λ body. stream_of body == stream) bodies

-- so many messages of a stream, as they're offered
abbrev pub messages_below : ℕ → ℕ → List (List ℕ)
messages_below stream n = map (body_of stream) (numbers_below n)

-- ALL CAME, in order, and no other on the stream
abbrev pub AllCame : ℕ → ℕ → List (List ℕ) → Type 0
AllCame messages stream bodies = of_stream stream bodies ≡ messages_below stream messages

-- THE MESSAGE of this number is missing: those before it came, and it isn't the next one; or all came and another did
pub record Lacks (messages stream n : ℕ) (bodies : List (List ℕ)) : Type 0 where
  pub few : n ≤ messages
  pub before : take n (of_stream stream bodies) ≡ messages_below stream n
  pub not_next : n < messages → slice_get (of_stream stream bodies) n ≢ Some (body_of stream n)
  pub not_all : n ≡ messages → of_stream stream bodies ≢ messages_below stream n

-- behind so many messages of a stream came this body: it's the next of them, or of another stream
pub record Follows (messages stream came : ℕ) (body : List ℕ) (more : ℕ) : Type 0 where
  pub few : more ≤ messages
  pub are : messages_below stream more ≡ messages_below stream came ++ of_stream stream (body ∷ [])

abbrev pub TellsStream : ℕ → ℕ → List (List ℕ) → Option ℕ → Type 0
TellsStream messages stream bodies None = AllCame messages stream bodies
TellsStream messages stream bodies (Some n) = Lacks messages stream n bodies

-- all came on each of so many streams
abbrev pub AllOfSet : ℕ → ℕ → List (List ℕ) → Type 0
AllOfSet users messages bodies = (stream : ℕ) → stream < users → AllCame messages stream bodies

-- the first stream that lacks a message
pub record LacksFirst (users messages : ℕ) (bodies : List (List ℕ)) (missing : Missing) : Type 0 where
  pub stream_of_set : missing.stream < users
  pub before : AllOfSet missing.stream messages bodies
  pub lacks : Lacks messages missing.stream missing.message bodies

-- what the one user of an end b took
abbrev pub taken_first : List (Result UserReport UserFault) → List (List ℕ)
taken_first [] = []
taken_first (Ok report ∷ users) = kept_by report
taken_first (Err fault ∷ users) = []

-- of one set
abbrev pub TellsSet : ℕ → ℕ → ℕ → List (List ℕ) → Option Missing → Type 0
TellsSet users messages set bodies None = AllOfSet users messages bodies
TellsSet users messages set bodies (Some missing) =
    (missing.set ≡ set) × LacksFirst users messages bodies missing

-- THE VERDICT on the ends b of sets, from this number on: none is missing, or this is the first that is
abbrev pub IsVerdict : ℕ → ℕ → ℕ → List SetEnd → Option Missing → Type 0
IsVerdict users messages set [] verdict = verdict ≡ None
IsVerdict users messages set (end ∷ ends) verdict =
    (AllOfSet users messages (taken_first end.users.items) × IsVerdict users messages (suc set) ends verdict)
    ⊎ ((missing : Missing) × (verdict ≡ Some missing)
    × TellsSet users messages set (taken_first end.users.items) (Some missing))

-- THE FAULT of a run in which a message is missing, as its line tells it
abbrev pub missing_line : Missing → List ℕ
missing_line missing = codes "fault " ++ absence_text missing
