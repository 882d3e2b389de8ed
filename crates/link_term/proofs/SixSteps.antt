-- THE STEPS OF A TURN, one after another, up to a whole turn (`TurnsOnce`), or to one that a fault or a unit of the wide
-- profile broke off (`TurnFails`): the talk of each step is joined to those before it, and a fault ends the joined talk where
-- it ended the step's. No induction: by cases on a result and on what was chosen. Uses Passing, Talking.
use Rattle.std.proofs.Common.{refl, sym, ap, subst, ◌≡◌, ◌∙◌, ℕ, Bool, true, false, List, [], ◌∷◌, ◌++◌, Option, Some, None, Result, Ok, Err, IfErr, inl, inr, append-nil, if◌then◌else◌}
use Rattle.std.specs.Option.{option_to_list}
use Rattle.std.specs.Result.{IsErrAnd}
use Rattle.l2_bits.specs.LineBits.{line_bits}
use Rattle.set_events.specs.declared.history.Entry.{Entry}
use Rattle.set_events.specs.declared.fault.SetFault.{SetFault}
use Rattle.l2_units.specs.declared.unit.Unit.{Unit as SignalUnit}
use Rattle.term_model.specs.Choosing.{Filled, filled}
use Rattle.term_model.specs.Hearing.{all_marked}
use Rattle.term_model.specs.Obeying.{commanded}
use Rattle.term_model.specs.OctetIn.{bits_in}
use Rattle.term_model.specs.OctetOut.{put_of, left_of}
use Rattle.term_model.specs.Talk.{and_then}
use Rattle.term_model.specs.Terminal.{Terminal}
use Rattle.term_model.specs.Timing.{timed}
use Rattle.link_term.specs.declared.counts.MarkCounts.{MarkCounts}
use Rattle.link_term.specs.declared.counts.Turned.{Turned}
use Rattle.link_term.specs.declared.counts.Filling.{Filling}
use Rattle.link_term.specs.declared.fault.TermFault.{TermFault}
use Rattle.link_term.specs.Faults.{fault_of}
use Rattle.link_term.specs.Filling.{FillsBits, Taps, filling_of, with_unit}
use Rattle.link_term.specs.Looking.{Seen, Passes}
use Rattle.link_term.specs.Standing.{Standing}
use Rattle.link_term.specs.Talking.{AtDoor, Gains, Breaks}
use Rattle.link_term.specs.Turning.{HearsMarks, BreaksMarks, from_marks, Steps, BrokenSteps, StepsTo, PutsOut, TurnsOnce, TurnBreaks, TurnFails, by_fault, by_profile}
use Rattle.term_model.proofs.Talks.{breaks_first}
use Rattle.link_term.proofs.Passing.{none_passed, passes_on}
use Rattle.link_term.proofs.Talking.{gains_joined, breaks_at_first, breaks_at_last}

-- the call that answers a fault of the door tells that one
pub steps_broken : (past : List Bool) (octet : Option ℕ) (before after : AtDoor) (result : Result Turned SetFault)
    (fault : SetFault) {T : Type 0} (tells : T → SignalUnit → T → Type 0) (tap tap' : T) → IsErrAnd result (λ e. e ≡ fault)
    → BrokenSteps past octet before after.asked.made → after.asked.faults ≡ before.asked.faults ++ fault ∷ []
    → tap' ≡ tap → StepsTo past octet before result after tells tap tap'
steps_broken past octet before after (Ok turned) fault tells tap tap' is broke told none = absurd is
steps_broken past octet before after (Err other) fault tells tap tap' is broke told none =
    (broke, told ∙ ap (λ (f : SetFault). before.asked.faults ++ f ∷ []) (sym is), none)

-- a fault at a mark
pub broken_marks : (past : List Bool) (octet : Option ℕ) (before : AtDoor) (made' : List Entry)
    → BreaksMarks past (bits_in octet) before made' → BrokenSteps past octet before made'
broken_marks past octet before made' broke = record {
  marks = broke.marks;
  gives = broke.are;
  breaks = breaks_at_first (all_marked broke.marks before.inside) (λ v. and_then (timed v) (λ w. filled w))
      before.asked.made made' broke.breaks;
}

module _ (past : List Bool) (octet : Option ℕ) (before mid : AtDoor) (counts : MarkCounts)
    (heard : HearsMarks past (bits_in octet) before counts mid) where
  -- at the end of a timer
  pub broken_timers : (made' : List Entry) → Breaks (timed mid.inside) mid.asked.made made'
      → BrokenSteps past octet before made'
  broken_timers made' broke = record {
    marks = heard.marks;
    gives = heard.are;
    breaks = breaks_at_last (all_marked heard.marks before.inside) (λ v. and_then (timed v) (λ w. filled w))
        before.asked.made mid.asked.made made' mid.inside heard.gains
        (breaks_at_first (timed mid.inside) (λ w. filled w) mid.asked.made made' broke);
  }

  -- at what is sent next
  pub broken_choice : (v : Terminal) (later made' : List Entry) → Gains (timed mid.inside) mid.asked.made later v
      → Breaks (filled v) later made' → BrokenSteps past octet before made'
  broken_choice v later made' timers broke = record {
    marks = heard.marks;
    gives = heard.are;
    breaks = breaks_at_last (all_marked heard.marks before.inside) (λ v. and_then (timed v) (λ w. filled w))
        before.asked.made mid.asked.made made' mid.inside heard.gains
        (breaks_at_last (timed mid.inside) (λ w. filled w) mid.asked.made later made' v timers broke);
  }

  -- nowhere
  pub steps_went : (v : Terminal) (filling : Filling) (later : List Entry) (after : AtDoor)
      {T : Type 0} (tells : T → SignalUnit → T → Type 0) (tap tap' : T) → Gains (timed mid.inside) mid.asked.made later v
      → FillsBits (filled v) filling later after.asked.made after.inside tells tap tap'
      → Steps past octet before (record { marks = counts; filling = filling }) after tells tap tap'
  steps_went v filling later after tells tap tap' timers fills = record {
    marks = heard.marks;
    gives = heard.are;
    chosen = fills.chosen;
    gains = gains_joined (all_marked heard.marks before.inside) (λ v. and_then (timed v) (λ w. filled w))
        before.asked.made mid.asked.made after.asked.made mid.inside fills.chosen heard.gains
        (gains_joined (timed mid.inside) (λ w. filled w) mid.asked.made later after.asked.made v fills.chosen timers fills.gains);
    appends = fills.appends;
    after_is = fills.after_is;
    counts_are = heard.counts_are;
    filling_is = fills.filling_is;
    unchanged = fills.unchanged;
    told = fills.told;
    untold = fills.untold;
  }

-- STEPS 1 AND 6.

pub turn_broken : {R T : Type 0} (result : Result R TermFault) (told : SetFault) (before after : Standing) (tap tap' : T)
    → IsErrAnd result (λ e. e ≡ fault_of told) → TurnBreaks before after
    → after.faults ≡ before.faults ++ told ∷ [] → tap' ≡ tap
    → IfErr result (λ e. TurnFails e before after × (tap' ≡ tap))
turn_broken (Ok turned) told before after tap tap' is broke noted none = absurd is
turn_broken (Err fault) told before after tap tap' is broke noted none =
    (by_fault (record { told = told; fault_is = is; faults_are = noted }) broke, none)

-- a unit of the wide profile is told apart by what came of the choice
narrow_of : (f : Filled) (filling : Filling) → filling ≡ filling_of f → (filling ≡ Filling.Wide → ⊥) → f.narrow ≡ true
narrow_of f filling is not = go f.narrow refl
  where
    go : (b : Bool) → f.narrow ≡ b → f.narrow ≡ true
    go true e = e
    go false e = absurd (not (is ∙ ap (λ b. if b then with_unit f.unit else Filling.Wide) e))

wide_of : (f : Filled) (filling : Filling) → filling ≡ filling_of f → filling ≡ Filling.Wide → f.narrow ≡ false
wide_of f filling is wide = go f.narrow f.unit refl refl
  where
    go : (b : Bool) (unit : Option SignalUnit) → f.narrow ≡ b → f.unit ≡ unit → f.narrow ≡ false
    go false unit e u = e
    go true None e u =
        let no : Filling.Enough ≡ Filling.Wide = sym (is ∙ ap (λ b. if b then with_unit f.unit else Filling.Wide) e ∙ ap with_unit u) ∙ wide in cc
    go true (Some unit) e u =
        let no : Filling.Chosen ≡ Filling.Wide = sym (is ∙ ap (λ b. if b then with_unit f.unit else Filling.Wide) e ∙ ap with_unit u) ∙ wide in cc

-- a fault at a command: no octet was taken
pub breaks_at_command : (before after : Standing) → Breaks (commanded before.inside) before.made after.made
    → after.taken ≡ before.taken → after.line ≡ before.line → TurnBreaks before after
breaks_at_command before after broke took same = record {
  octet = None;
  entries = broke.entries;
  last = broke.last;
  turn = record {
    marks = [];
    gives = refl;
    broke_off = breaks_first (commanded before.inside) (λ v. from_marks [] v) broke.entries broke.last broke.broke_off;
  };
  taken_is = took ∙ sym (append-nil before.taken);
  made_is = broke.made_is;
  passes = subst (λ (l : Seen). Passes None [] before.line l) (sym same) (none_passed before.line);
  none_waited = λ _. inr broke.broke_off;
}

-- a fault later on
pub breaks_after : (before after : Standing) (octet : Option ℕ) (mid : AtDoor)
    → Gains (commanded before.inside) before.made mid.asked.made mid.inside
    → BrokenSteps (line_bits before.taken) octet mid after.made → after.taken ≡ before.taken ++ option_to_list octet
    → Passes octet [] before.line after.line → (octet ≡ None → before.line.waiting ≡ []) → TurnBreaks before after
breaks_after before after octet mid obeyed broke took passes none =
    let all = breaks_at_last (commanded before.inside) (λ v. from_marks broke.marks v) before.made mid.asked.made after.made
    mid.inside obeyed broke.breaks in record {
      octet = octet;
      entries = all.entries;
      last = all.last;
      turn = record { marks = broke.marks; gives = broke.gives; broke_off = all.broke_off };
      taken_is = took;
      made_is = all.made_is;
      passes = passes;
      none_waited = λ is. inl (none is);
    }

-- a place was known to be free only where an octet was put
full_where_none_put : (has_room : Bool) (bits : List Bool) (free : ℕ) → (has_room ≡ false → free ≡ 0)
    → put_of has_room bits ≡ [] → free ≡ 0
full_where_none_put true bits free full none = absurd (cc none)
full_where_none_put false bits free full none = full refl

-- STEPS 1 TO 5 WENT: the commands, then the octet's marks, timers and the choice; so the line was, where nothing was put yet
pub record FiveSteps (before : Standing) (turned : Turned) (after : Standing) (last : AtDoor) (line : Seen) {T : Type 0}
    (tells : T → SignalUnit → T → Type 0) (tap tap' : T) : Type 0 where
  pub octet : Option ℕ
  pub mid : AtDoor
  pub obeyed : Gains (commanded before.inside) before.made mid.asked.made mid.inside
  pub steps : Steps (line_bits before.taken) octet mid turned last tells tap tap'
  pub taken_is : after.taken ≡ before.taken ++ option_to_list octet
  pub passes : Passes octet [] before.line line
  pub none_waited : octet ≡ None → before.line.waiting ≡ []
  pub made_is : after.made ≡ last.asked.made
  pub no_fault : after.faults ≡ before.faults

module _ (before : Standing) (turned : Turned) (after : Standing) (last : AtDoor) (line : Seen) {T : Type 0}
    (tells : T → SignalUnit → T → Type 0) (tap tap' : T) (went : FiveSteps before turned after last line tells tap tap') where
  steps : Steps (line_bits before.taken) went.octet went.mid turned last tells tap tap'
  steps = went.steps

  all_gains : Gains (and_then (commanded before.inside) (λ w. from_marks steps.marks w)) before.made after.made steps.chosen
  all_gains = subst (λ m. Gains (and_then (commanded before.inside) (λ w. from_marks steps.marks w)) before.made m steps.chosen)
      (sym went.made_is)
      (gains_joined (commanded before.inside) (λ w. from_marks steps.marks w) before.made went.mid.asked.made last.asked.made
      went.mid.inside steps.chosen went.obeyed steps.gains)

  -- and the sixth
  pub turn_went : PutsOut last.inside after.inside line after.line → (turned.filling ≡ Filling.Wide → ⊥)
      → (turns : TurnsOnce before turned after) × Taps tells turns.turn.chosen.unit tap tap'
  turn_went puts not = (
    record {
      octet = went.octet;
      entries = all_gains.entries;
      out = put_of puts.has_room last.inside.bits;
      marks = steps.marks;
      turn = record {
        gives = steps.gives;
        chosen = steps.chosen;
        went = all_gains.went;
        narrow = narrow_of steps.chosen turned.filling steps.filling_is not;
        puts = record {
          bits = last.inside.bits;
          appends = steps.appends;
          has_room = puts.has_room;
          put_is = refl;
          after_is = puts.after_is
              ∙ ap (λ (w : Terminal). record w { bits = left_of puts.has_room last.inside.bits }) steps.after_is;
        };
      };
      taken_is = went.taken_is;
      made_is = all_gains.made_is;
      no_fault = went.no_fault;
      looks = record {
        passes = passes_on went.octet (put_of puts.has_room last.inside.bits) before.line line after.line went.passes puts.passes;
        none_waited = went.none_waited;
        was_full = full_where_none_put puts.has_room last.inside.bits after.line.free puts.was_full;
      };
      counts_are = steps.counts_are;
      filling_is = steps.filling_is;
    },
    steps.told,
  )

  -- a unit of the wide profile was given
  pub turn_wide : after.inside ≡ last.inside → after.line ≡ line → turned.filling ≡ Filling.Wide
      → TurnFails TermFault.Profile before after × (tap' ≡ tap)
  turn_wide inside same is =
      let wide = wide_of steps.chosen turned.filling steps.filling_is is in (
        by_profile refl went.no_fault (record {
          octet = went.octet;
          entries = all_gains.entries;
          turn = record { marks = steps.marks; gives = steps.gives; chosen = steps.chosen; went = all_gains.went; wide = wide };
          taken_is = went.taken_is;
          made_is = all_gains.made_is;
          passes = subst (λ (l : Seen). Passes went.octet [] before.line l) (sym same) went.passes;
          none_waited = went.none_waited;
          after_is = inside ∙ steps.unchanged wide;
        }),
        steps.untold wide,
      )
