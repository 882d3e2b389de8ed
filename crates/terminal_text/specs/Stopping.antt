-- WHO STOPS A LINK. One that goes out of service since it was stopped (cause 9) was told so since its turn before; or else
-- the set has left it by an order of the far end (Q.704 5), and answers its terminal that it isn't up (term_model,
-- Hearing, Choosing).
use Rattle.std.specs.Prelude.{ℕ, Bool, true, false, not, ◌==◌, ◌||◌, List, [], ◌∷◌, Option, Some, None, slice_get, slice_set, codes, replicate, if◌then◌else◌}
use Rattle.l3_link.specs.declared.signals.Ask.{Ask}
use Rattle.term_managed.specs.declared.turn.Deed.{Deed}
use Rattle.term_model.specs.declared.command.Command.{Command}
use Rattle.terminal_text.specs.declared.stopping.Stopper.{Stopper}
use Rattle.terminal_text.specs.declared.stopping.Teller.{Teller}
use Rattle.terminal_text.specs.declared.stopping.Watch.{Watch}

-- WHAT IS KEPT OF EACH LINK: who told it to stop since its last turn, and how many changeover orders about it the set had heard
-- late before that turn. At first nobody did, and there was none.
abbrev pub unwatched : Watch
unwatched = record { teller = Teller.Nobody; late = 0 }

abbrev pub all_unwatched : List Watch
all_unwatched = replicate 16 unwatched

abbrev pub watch_in : Option Watch → Watch
watch_in None = unwatched
watch_in (Some watch) = watch

abbrev pub watch_of : ℕ → List Watch → Watch
watch_of link watches = watch_in (slice_get watches link)

-- it's told to stop
abbrev pub told_by : Teller → ℕ → List Watch → List Watch
told_by teller link watches = slice_set watches link (record { teller = teller; late = (watch_of link watches).late })

-- by a command
abbrev pub commanded_by : Command → ℕ → List Watch → List Watch
commanded_by Command.Stop link watches = told_by Teller.Driver link watches
commanded_by _ link watches = watches

-- by what level 3 asked
abbrev pub is_stop : Ask → Bool
is_stop Ask.Stop = true
is_stop _ = false

abbrev pub ask_stop : List Deed → Bool
ask_stop [] = false
ask_stop (deed ∷ deeds) = is_stop deed.ask || ask_stop deeds

abbrev pub managed_by : List Deed → ℕ → List Watch → List Watch
managed_by deeds link watches = if ask_stop deeds then told_by Teller.Level3 link watches else watches

-- WHO STOPPED IT, where it's stopped in a turn before which so many orders had come late: the last that told it to; or, where
-- one came late since its turn before, the terminal was told for that (term_bench, Late); or else the set has left it
abbrev pub stopper_by : Teller → Bool → Stopper
stopper_by Teller.Driver late = Stopper.Driver
stopper_by Teller.Level3 late = Stopper.Level3
stopper_by Teller.Nobody late = if late then Stopper.Late else Stopper.Order

abbrev pub stopper_of : ℕ → Watch → Stopper
stopper_of late watch = stopper_by watch.teller (not (late == watch.late))

-- behind that turn nobody told it to yet but level 3, which may have asked so
abbrev pub watched : ℕ → ℕ → List Deed → List Watch → List Watch
watched link late deeds watches = managed_by deeds link (slice_set watches link (record { teller = Teller.Nobody; late = late }))

-- HOW IT'S TOLD
abbrev pub by_words : Stopper → List ℕ
by_words Stopper.Driver = []
by_words Stopper.Level3 = codes " by=level3"
by_words Stopper.Late = codes " by=late"
by_words Stopper.Order = codes " by=order"
