-- ONE END: its set, and of each link's terminal what its turns did so far (`IsEnd`). A turn of a link keeps it (`turn_kept`), and so do
-- commands and what is asked.
use Rattle.std.proofs.Common.{refl, sym, ap, subst, arith, ◌≡◌, ◌∙◌, ◌<◌, ◌≤◌, ◌^◌, ◌%◌, ◌==◌, ◌&&◌, nat_le, ℕ, zero, suc, Bool, true, false, not, List, [], ◌∷◌, ◌++◌, length, All, Option, Some, None, slice_get, if◌then◌else◌}
use Rattle.std.proofs.lemmas.Bool.{cond_both}
use Rattle.std.proofs.lemmas.List.{append-nil, length-append, length-drop}
use Rattle.std.proofs.lemmas.List.Elements.{All-append, All-cons, All-nil, All-tail}
use Rattle.std.proofs.lemmas.Grind.{flat_map-append}
use Rattle.std.proofs.lemmas.Option.{same_Some}
use Rattle.std.specs.Option.{option_to_list}
use Rattle.l2_bits.specs.declared.marks.Mark.{Mark}
use Rattle.l2_bits.specs.Flags.{flag}
use Rattle.l2_bits.specs.LineBits.{line_bits}
use Rattle.l2_bits.specs.Marks.{AreMarks, IsMark}
use Rattle.l2_bits.proofs.ContentLemmas.{raw_fits}
use Rattle.l2_bits.proofs.FlagLemmas.{length-flag}
use Rattle.l2_bits.proofs.MarkLemmas.{marks-append}
use Rattle.l2_bits.proofs.OctetLemmas.{line_bits-append}
use Rattle.l2_units.specs.declared.profile.Profile.TheVariants.{Narrow}
use Rattle.l2_units.specs.declared.unit.Unit.{Unit as SignalUnit}
use Rattle.l2_units.specs.Grammar.{IsHeadOf, body_of, header_in, length_indicator, status_of, text, unit_of, unit_with}
use Rattle.l2_units.specs.Numbers.{status_number}
use Rattle.link_term.specs.States.{state_of}
use Rattle.set_events.specs.declared.event.Actor.{Actor}
use Rattle.set_events.specs.declared.event.Event.{Event}
use Rattle.set_events.specs.declared.history.Entry.{Entry}
use Rattle.set_model.specs.Step.{step}
use Rattle.set_model.specs.State.{State}
use Rattle.set_octets.specs.Octets.{AreOctets, AskedInOctets, GivesOctets, HoldsOctets}
use Rattle.set_octets.proofs.Held.{steps_give_octets}
use Rattle.term_bench.specs.Ends.{AtLink, BenchState, new_link, told_at}
use Rattle.term_bench.specs.Late.{ended_at, ended_from, is_out, was_late}
use Rattle.term_bench.specs.Ready.{GivesNarrow}
use Rattle.term_bench.specs.Talks.{entries_with, outcome_with, state_with}
use Rattle.term_bench.specs.Turns.{IsTurnBy}
use Rattle.term_bench.proofs.NarrowThere.{step_gives}
use Rattle.term_laws.specs.HeardLaws.{IsSendable}
use Rattle.term_laws.proofs.Heard.{joins, unit_good}
use Rattle.term_model.specs.Choosing.{Filled}
use Rattle.term_model.specs.Hearing.{unit_in}
use Rattle.term_model.specs.LineLaws.{CarriesUnits}
use Rattle.term_model.specs.OctetIn.{bits_in}
use Rattle.term_model.specs.Runs.{Doing, Did, marks_of, octets_in, octets_out, units_of}
use Rattle.term_model.specs.Talk.{Talk, done, ask, Went}
use Rattle.term_model.specs.Terminal.{Terminal, last_head}
use Rattle.term_model.specs.Turn.{IsTurn, turn_talk}
use Rattle.term_model.specs.TurnLaws.{IsSound}
use Rattle.term_model.specs.declared.command.Command.{Command}
use Rattle.term_model.specs.OctetOut.{Appends, put_of, left_of}
use Rattle.term_model.specs.declared.timers.Timers.{Timers}
use Rattle.term_model.proofs.OnLine.{carries}
use Rattle.term_model.proofs.TurnStays.{bits_stay, turn_sound}
use Rattle.term_model.proofs.TurnStays.{starts_sound}
use Rattle.pair_octets.proofs.Sending.{Keeps, HasFew, HeardOctets, AllOctets, Sends, SendsOne, turn_sends}

-- UNITS THAT WERE READ FROM BITS have bodies of octets.
abbrev Fits : ℕ → Type 0
Fits octet = octet < 2 ^ 8

status_fits : (n : ℕ) → status_number (status_of n) < 2 ^ 8
status_fits n = grind arith

with_octets : (head : _) (body : List ℕ) → AreOctets body → AreOctets (body_of (unit_with head body))
with_octets head [] all = All-nil Fits
with_octets head (first ∷ []) all = All-cons Fits (status_number (status_of (first % 8))) [] (status_fits (first % 8)) (All-nil Fits)
with_octets head (first ∷ second ∷ []) all = All-cons Fits (status_number (status_of (first % 8))) [] (status_fits (first % 8)) (All-nil Fits)
with_octets head (first ∷ second ∷ third ∷ body) all = all

read_octets : (octets : List ℕ) → AreOctets octets → HeardOctets (unit_of Narrow octets)
read_octets [] all = tt
read_octets (backward ∷ []) all = tt
read_octets (backward ∷ forward ∷ []) all = tt
read_octets (backward ∷ forward ∷ third ∷ body) all =
    let head = header_in backward forward in
    let inner : AreOctets body = All-tail Fits third body (All-tail Fits forward (third ∷ body) (All-tail Fits backward (forward ∷ third ∷ body) all)) in
    cond_both (nat_le (length body) 273) (if third % 64 == length_indicator body then Some (unit_with head body) else None) None HeardOctets
    (λ short. cond_both (third % 64 == length_indicator body) (Some (unit_with head body)) None HeardOctets (λ is. with_octets head body inner) (λ not. tt))
    (λ long. tt)

mark_octets : (past : List Bool) (bit : Bool) (mark : Mark) → IsMark past bit (Some mark) → HeardOctets (unit_in mark)
mark_octets past bit (Mark.Good octets) is = read_octets octets.items is.good.in_range
mark_octets past bit Mark.Bad is = tt
mark_octets past bit Mark.Sixteen is = tt

with_mark : (past : List Bool) (bit : Bool) (later : List Mark) (mark : Option Mark) → IsMark past bit mark → AllOctets later
    → AllOctets (option_to_list mark ++ later)
with_mark past bit later None is all = all
with_mark past bit later (Some mark) is all = (mark_octets past bit mark is, all)

pub marks_octets : (past bits : List Bool) (marks : List Mark) → AreMarks past bits marks → AllOctets marks
marks_octets past [] marks same = subst (λ (m : List Mark). AllOctets m) (sym same) tt
marks_octets past (bit ∷ bits) marks are =
    subst (λ (m : List Mark). AllOctets m) (sym are.4) (with_mark past bit are.1 are.0 are.2 (marks_octets (past ++ bit ∷ []) bits are.1 are.3))

-- A SET THAT GIVES OCTETS.
pub record IsSet (s : State) : Type 0 where
  pub gives : GivesNarrow s
  pub octets : HoldsOctets s

record Stepped (s : State) (event : Event) : Type 0 where
  pub is : IsSet (step s event).state
  pub gives : GivesOctets (step s event).answer

step_is : (s : State) (event : Event) → IsSet s → AskedInOctets event → Stepped s event
step_is s event is asked =
    let o = steps_give_octets s event is.gives.sound is.gives.settings is.octets asked in
    record { is = record { gives = (step_gives s event is.gives).1; octets = o.holds }; gives = o.gives }

pub asked_is : (s : State) (event : Event) → IsSet s → AskedInOctets event → IsSet (step s event).state
asked_is s event is asked = (step_is s event is asked).is

-- through a talk
through : {T : Type 0} (so : T → Type 0) (talk : Talk T) (s : State) → Keeps so talk → IsSet s
    → so (outcome_with talk s) × IsSet (state_with talk s)
through so (done a) s kept is = (kept, is)
through so (ask event more) s kept is =
    let one = step_is s event is kept.0 in
    through so (more (step s event).answer) (step s event).state (kept.1 (step s event).answer one.gives) one.is

went_with : {T : Type 0} (talk : Talk T) (who : Actor) (s : State) → Went talk (entries_with talk who s) (outcome_with talk s)
went_with (done a) who s = refl
went_with (ask event more) who s = (refl, went_with (more (step s event).answer) who (step s event).state)

-- A LINK, and the turns of its terminal so far.
pub record IsLink (ds : List Doing) (at : AtLink) : Type 0 where
  pub heard_is : at.heard ≡ octets_in ds
  pub sound : IsSound at.terminal
  pub carries : CarriesUnits (units_of ds) (octets_out ds) flag at.terminal.bits
  pub marks : AreMarks [] (line_bits (octets_in ds)) (marks_of ds)
  pub sends : All IsSendable (units_of ds)
  pub last : IsHeadOf Narrow (last_head at.terminal)
  pub few : length at.terminal.bits ≤ 2675

abbrev pub doing_of : ℕ → ℕ → List Entry → List Mark → Option SignalUnit → Doing
doing_of octet put entries marks unit = record { octet = Some octet; entries = entries; put = put ∷ []; marks = marks; unit = unit }

-- what's appended is at most so long
appended_few : (unit : Option SignalUnit) (old bits : List Bool) → SendsOne unit → HasFew unit old → Appends unit old bits → length old ≤ 2675
    → length bits ≤ 2683
appended_few None old bits sends few same short = omega (arith, short, ap length same)
appended_few (Some unit) old bits sends few on short =
    let good = unit_good unit on.wire (record { is_unit = sends.is_unit; in_range = sends.octets }) on.stuffed in
    omega (arith, few, raw_fits on.wire (text Narrow unit) good, ap length on.appended, length-append (old ++ on.wire) flag, length-append old on.wire, length-flag)

sendable : (unit : Option SignalUnit) → SendsOne unit → All IsSendable (option_to_list unit)
sendable None sends = All-nil IsSendable
sendable (Some unit) sends = All-cons IsSendable unit [] (record { is_unit = sends.is_unit; in_range = sends.octets }) (All-nil IsSendable)

left_few : (room : Bool) (put : ℕ) (bits : List Bool) → put ∷ [] ≡ put_of room bits → length bits ≤ 2683 → length (left_of room bits) ≤ 2675
left_few true put bits is short = omega (arith, short, length-drop 8 bits)
left_few false put bits is short = absurd cc

octet_bits : (octet : ℕ) → line_bits (octet ∷ []) ≡ bits_in (Some octet)
octet_bits octet = append-nil _

-- the turn, as term_model has it
abbrev turn_by : (octet : ℕ) (who : Actor) (s s' : State) (at at' : AtLink) (put : ℕ) (entries : List Entry) (unit : Option SignalUnit)
    (by : IsTurnBy octet who s at put entries unit s' at')
    → IsTurn (line_bits at.heard) at.terminal (Some octet) entries (put ∷ []) by.marks at'.terminal
turn_by octet who s s' at at' put entries unit by = record {
  gives = by.gives;
  chosen = outcome_with (turn_talk by.marks at.terminal) s;
  went = subst (λ (es : List Entry). Went (turn_talk by.marks at.terminal) es (outcome_with (turn_talk by.marks at.terminal) s)) (sym by.entries_are)
      (went_with (turn_talk by.marks at.terminal) who s);
  narrow = by.narrow;
  puts = by.puts;
}

pub did_by : (octet : ℕ) (who : Actor) (s s' : State) (at at' : AtLink) (put : ℕ) (entries : List Entry) (unit : Option SignalUnit)
    (by : IsTurnBy octet who s at put entries unit s' at')
    → Did (line_bits at.heard) at.terminal (doing_of octet put entries by.marks unit) at'.terminal
did_by octet who s s' at at' put entries unit by = record { turn = turn_by octet who s s' at at' put entries unit by; unit_is = by.unit_is }

pub record TurnKept (ds : List Doing) (doing : Doing) (at' : AtLink) (s' : State) : Type 0 where
  pub link : IsLink (ds ++ doing ∷ []) at'
  pub set : IsSet s'

pub turn_kept : (octet : ℕ) (who : Actor) (s s' : State) (at at' : AtLink) (put : ℕ) (entries : List Entry) (unit : Option SignalUnit)
    (ds : List Doing) (by : IsTurnBy octet who s at put entries unit s' at') → IsLink ds at → IsSet s
    → TurnKept ds (doing_of octet put entries by.marks unit) at' s'
turn_kept octet who s s' at at' put entries unit ds by link set = record { link = one_more; set = subst (λ (u : State). IsSet u) (sym by.state_is) all.1 }
  where
    talk : Talk Filled
    talk = turn_talk by.marks at.terminal

    doing : Doing
    doing = doing_of octet put entries by.marks unit

    all : Sends (outcome_with talk s) × IsSet (state_with talk s)
    all = through Sends talk s
        (turn_sends at.terminal.last at.terminal.bits link.last by.marks (marks_octets (line_bits at.heard) (bits_in (Some octet)) by.marks by.gives) at.terminal (refl, refl)) set

    did : Did (line_bits at.heard) at.terminal doing at'.terminal
    did = did_by octet who s s' at at' put entries unit by

    turn : IsTurn (line_bits at.heard) at.terminal (Some octet) entries (put ∷ []) by.marks at'.terminal
    turn = turn_by octet who s s' at at' put entries unit by

    sends : SendsOne unit
    sends = subst (λ (u : Option SignalUnit). SendsOne u) (sym by.unit_is) all.0.0

    old_bits : (outcome_with talk s).after.bits ≡ at.terminal.bits
    old_bits = bits_stay (line_bits at.heard) at.terminal (Some octet) entries (put ∷ []) by.marks at'.terminal link.sound turn

    carried : CarriesUnits (units_of (doing ∷ [])) (octets_out (doing ∷ [])) at.terminal.bits at'.terminal.bits
    carried = carries (doing ∷ []) (line_bits at.heard) at.terminal at'.terminal link.sound (at'.terminal, did, refl)

    one_more : IsLink (ds ++ doing ∷ []) at'
    one_more = record {
      heard_is = ap (λ (a : AtLink). a.heard) by.at_is ∙ ap (λ (os : List ℕ). os ++ octet ∷ []) link.heard_is
          ∙ sym (flat_map-append (λ (d : Doing). option_to_list d.octet) ds (doing ∷ []));
      sound = (turn_sound (line_bits at.heard) at.terminal (Some octet) entries (put ∷ []) by.marks at'.terminal link.sound turn).goes_on.sound;
      carries = subst (λ (us : List SignalUnit). CarriesUnits us (octets_out (ds ++ doing ∷ [])) flag at'.terminal.bits)
          (sym (flat_map-append (λ (d : Doing). option_to_list d.unit) ds (doing ∷ [])))
          (subst (λ (os : List ℕ). CarriesUnits (units_of ds ++ units_of (doing ∷ [])) os flag at'.terminal.bits)
          (sym (flat_map-append (λ (d : Doing). d.put) ds (doing ∷ [])))
          (joins (units_of ds) (units_of (doing ∷ [])) (octets_out ds) (octets_out (doing ∷ [])) flag at.terminal.bits at'.terminal.bits link.carries carried));
      marks = subst (λ (os : List ℕ). AreMarks [] (line_bits os) (marks_of (ds ++ doing ∷ [])))
          (sym (flat_map-append (λ (d : Doing). option_to_list d.octet) ds (doing ∷ [])))
          (subst (λ (bits : List Bool). AreMarks [] bits (marks_of (ds ++ doing ∷ []))) (sym (line_bits-append (octets_in ds) (octet ∷ [])))
          (subst (λ (ms : List Mark). AreMarks [] (line_bits (octets_in ds) ++ line_bits (octet ∷ [])) ms)
          (sym (flat_map-append (λ (d : Doing). d.marks) ds (doing ∷ [])))
          (marks-append [] (line_bits (octets_in ds)) (line_bits (octet ∷ [])) (marks_of ds) (by.marks ++ []) link.marks
          (subst (λ (bits : List Bool). AreMarks (line_bits (octets_in ds)) bits (by.marks ++ [])) (sym (octet_bits octet))
          (subst (λ (ms : List Mark). AreMarks (line_bits (octets_in ds)) (bits_in (Some octet)) ms) (sym (append-nil by.marks))
          (subst (λ (os : List ℕ). AreMarks (line_bits os) (bits_in (Some octet)) by.marks) link.heard_is by.gives))))));
      sends = subst (λ (us : List SignalUnit). All IsSendable us) (sym (flat_map-append (λ (d : Doing). option_to_list d.unit) ds (doing ∷ [])))
          (All-append IsSendable (units_of ds) (option_to_list unit ++ []) link.sends
          (subst (λ (us : List SignalUnit). All IsSendable us) (sym (append-nil (option_to_list unit))) (sendable unit sends)));
      last = subst (λ (t : Terminal). IsHeadOf Narrow (last_head t)) (sym by.puts.after_is) all.0.1;
      few = subst (λ (t : Terminal). length t.bits ≤ 2675) (sym by.puts.after_is)
          (left_few by.puts.has_room put by.puts.bits by.puts.put_is
          (appended_few (outcome_with talk s).unit (outcome_with talk s).after.bits by.puts.bits all.0.0 all.0.2 by.puts.appends
          (subst (λ (bits : List Bool). length bits ≤ 2675) (sym old_bits) link.few)));
    }

-- a command leaves what turns did
pub told_kept : (ds : List Doing) (at : AtLink) (command : Command) → IsLink ds at → IsLink ds (told_at command at)
told_kept ds at command link = record {
  heard_is = link.heard_is;
  sound = ((starts_sound 0 at.terminal.lengths).told_sound command at.terminal link.sound).sound;
  carries = link.carries;
  marks = link.marks;
  sends = link.sends;
  last = link.last;
  few = link.few;
}

-- a link that no turn was taken of
pub new_kept : (link : ℕ) (lengths : Timers) → IsLink [] (new_link lengths link)
new_kept link lengths = record {
  heard_is = refl;
  sound = (starts_sound link lengths).opened_sound;
  carries = record { line = []; on_line = refl; same = append-nil flag };
  marks = refl;
  sends = All-nil IsSendable;
  last = (omega arith, omega arith);
  few = omega (arith, length-flag);
}

-- EACH LINK OF AN END.
abbrev pub EachLink : (ℕ → AtLink → Type 0) → List AtLink → Type 0
EachLink P links = (n : ℕ) (at : AtLink) → slice_get links n ≡ Some at → P n at

ended_one : (P : AtLink → Type 0) → ((at : AtLink) → P at → P (told_at Command.Stop at)) → (link : ℕ) (s t : State) (at : AtLink) → P at → P (ended_at link s t at)
ended_one P tells link s t at p = go (was_late link s t && not (is_out (state_of at.terminal)))
  where
    go : (b : Bool) → P (if b then told_at Command.Stop at else at)
    go true = tells at p
    go false = p

pub ended_each : (P : ℕ → AtLink → Type 0) → ((n : ℕ) (at : AtLink) → P n at → P n (told_at Command.Stop at)) → (link : ℕ) (s t : State)
    (links : List AtLink) → EachLink P links → EachLink P (ended_from link s t links)
ended_each P tells link s t [] each n at there = absurd cc
ended_each P tells link s t (x ∷ links) each zero at there =
    subst (P 0) (same_Some (ended_at link s t x) at there) (ended_one (P 0) (tells 0) link s t x (each 0 x refl))
ended_each P tells link s t (x ∷ links) each (suc n) at there =
    ended_each (λ m. P (suc m)) (λ m. tells (suc m)) (suc link) s t links (λ m y is. each (suc m) y is) n at there

pub record IsEnd (turns : ℕ → List Doing) (bench : BenchState) : Type 0 where
  pub set : IsSet bench.set.state
  pub links : EachLink (λ n at. IsLink (turns n) at) bench.links
