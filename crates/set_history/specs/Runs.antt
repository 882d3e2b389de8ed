-- RUNS: entries that repeat the last ones in turn are counted.
use Rattle.std.specs.Prelude.{◌≡◌, ◌≤◌, ◌<◌, ◌+◌, ◌-◌, ◌*◌, ◌^◌, ℕ, zero, suc, List, [], ◌∷◌, ◌++◌, length, take, drop}
use Rattle.set_events.specs.declared.history.Entry.{Entry}
use Rattle.set_history.specs.Told.{entry_told, behind_entry, entries_told, AreWritten}
use Rattle.set_history.specs.declared.run.LastRun.{LastRun}
use Rattle.set_history.specs.declared.run.Run.{Run}

-- entries that come in turn: where nothing is left the first comes again
abbrev pub begun : List ℕ → List ℕ → List ℕ
begun all [] = all
begun all (first ∷ rest) = first ∷ rest

abbrev pub rounds : ℕ → List ℕ → List ℕ → List Entry
rounds zero all left = []
rounds (suc n) all left = entry_told (begun all left) ∷ rounds n all (behind_entry (begun all left))

abbrev pub behind_rounds : ℕ → List ℕ → List ℕ → List ℕ
behind_rounds zero all left = left
behind_rounds (suc n) all left = behind_rounds n all (behind_entry (begun all left))

-- a run: so many entries that are written, and so many more that repeat those behind `skip` octets, in turn
abbrev pub run_told : ℕ → ℕ → ℕ → List ℕ → List Entry
run_told entries skip more octets = entries_told entries octets ++ rounds more (drop skip octets) []

abbrev pub runs_told : List Run → List ℕ → List Entry
runs_told [] octets = []
runs_told (run ∷ runs) octets =
    run_told run.entries run.skip run.more (take run.size octets) ++ runs_told runs (drop run.size octets)

abbrev pub size_of : List Run → ℕ
size_of [] = 0
size_of (run ∷ runs) = run.size + size_of runs

-- A HISTORY: runs, and a last one of the octets behind them
abbrev pub last_told : LastRun → List ℕ → List Entry
last_told last octets = run_told last.entries last.skip last.more octets

abbrev pub history_told : List Run → LastRun → List ℕ → List Entry
history_told runs last octets = runs_told runs octets ++ last_told last (drop (size_of runs) octets)

-- the octets that come in turn, in the last run
abbrev pub cycle : LastRun → List ℕ → List ℕ
cycle last octets = drop (last.begin + last.skip) octets

-- the last run begins behind the others, and its octets are those of what they tell; `next` is where the next in turn
-- stands; of all entries at most 2^61 and 2^32 are counted, and each other has two octets at least
pub record AreRuns (runs : List Run) (last : LastRun) (octets : List ℕ) : Type 0 where
  pub begins : last.begin ≡ size_of runs
  pub within : last.begin + last.skip ≤ length octets
  pub written : AreWritten last.entries (drop last.begin octets)
  pub in_turn : drop last.next octets ≡ begun (cycle last octets) (behind_rounds last.more (cycle last octets) [])
  pub long : last.len ≡ length (history_told runs last octets)
  pub some : last.entries + last.more ≤ last.len
  pub few : 2 * last.len ≤ length octets + 2 ^ 63
  pub counts : last.next < length octets → (0 < last.entries) × (length octets < last.begin + 2 ^ 32) × (last.len ≤ 2 ^ 61 + last.more)
  pub small : 0 < last.more → (0 < last.entries) × (length octets < last.begin + 2 ^ 32) × (last.more < 2 ^ 32)

-- one more entry is written, and what comes in turn is set anew
pub record IsOneMore (old new : LastRun) (octets : ℕ) : Type 0 where
  pub begin : new.begin ≡ old.begin
  pub entries : new.entries ≡ old.entries + 1
  pub more : new.more ≡ old.more
  pub next : new.next ≡ new.begin + new.skip
  pub within : new.begin + new.skip ≤ octets
  pub counts : new.next < octets → (octets < old.begin + 2 ^ 32) × (old.len < 2 ^ 61)
  pub len : new.len ≡ old.len + 1

-- a run that ends at `octets` has numbers of 32 bits
pub record IsSmall (last : LastRun) (octets : ℕ) : Type 0 where
  pub entries : last.entries < 2 ^ 32
  pub size : octets - last.begin < 2 ^ 32
  pub skip : last.skip < 2 ^ 32
  pub more : last.more < 2 ^ 32

-- a run that ends at `octets`, and the one that begins there
pub record IsEnded (last : LastRun) (octets : ℕ) (run : Run) : Type 0 where
  pub entries : run.entries ≡ last.entries
  pub size : run.size ≡ octets - last.begin
  pub skip : run.skip ≡ last.skip
  pub more : run.more ≡ last.more

abbrev pub IsOneEnded : List Run → List Run → LastRun → ℕ → Type 0
IsOneEnded old new last octets = (run : Run) × (IsEnded last octets run) × (new ≡ old ++ run ∷ [])

abbrev pub begun_at : ℕ → ℕ → LastRun
begun_at octets len = record { begin = octets; entries = 0; skip = 0; more = 0; next = octets; len = len }

-- an entry takes room in the octets, and the run that it ends takes a place among the runs
abbrev pub room_in : ℕ → ℕ → ℕ
room_in zero octets = 0
room_in (suc runs) octets = octets
