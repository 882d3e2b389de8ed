-- WHATEVER COMES ON A LINE OF A BENCH IS HEARD (`pieces_there`): there's a turn for each octet that is whole (`turn_there`), since its
-- bits give marks and its set, of the narrow profile, gives a unit that can be sent. An induction over the pieces, which keeps what
-- holds of the bench (`IsReady`). Uses MarksThere and NarrowThere; used by TextThere.
use Rattle.std.proofs.Common.{refl, sym, ap, subst, arith, ◌≡◌, ◌∙◌, ◌⊎◌, inl, inr, ◌<◌, ◌≤◌, ℕ, zero, suc, Bool, true, false, not, ◌&&◌, List, [], ◌∷◌, ◌++◌, length, take, drop, Option, None, Some, slice_get, slice_set, if◌then◌else◌, length-append}
use Rattle.std.proofs.lemmas.List.{length-drop}
use Rattle.std.specs.Option.{option_to_list}
use Rattle.l2_bits.specs.Flags.{flag}
use Rattle.l2_bits.specs.LineBits.{line_bits, number_of}
use Rattle.l2_bits.specs.SealedText.{sealed_text}
use Rattle.l2_bits.specs.Stuffing.{text_after}
use Rattle.l2_bits.proofs.StuffingLemmas.{has_text}
use Rattle.l2_units.specs.Grammar.{text}
use Rattle.l2_units.specs.declared.profile.Profile.TheVariants.{Narrow}
use Rattle.l2_units.specs.declared.unit.Unit.{Unit as SignalUnit}
use Rattle.link_term.specs.States.{state_of}
use Rattle.set_events.specs.declared.event.Actor.TheVariants.{Terminal as TerminalOf}
use Rattle.set_events.specs.declared.history.Entry.{Entry}
use Rattle.set_model.specs.History.{LinkSet}
use Rattle.set_model.specs.State.{State}
use Rattle.term_bench.specs.Ends.{AtLink, BenchState, told_at, word_of}
use Rattle.term_bench.specs.Late.{ended_at, ended_from, is_out, was_late}
use Rattle.term_bench.specs.Ready.{EachIsHeard, FewWait, IsReady}
use Rattle.term_bench.specs.Talks.{entries_with, outcome_with, state_with}
use Rattle.term_bench.specs.Turns.{Turns, counts_after, messages_heard}
use Rattle.term_bench.specs.Waiting.{HearsPiece, TurnAndUnit, waits_with}
use Rattle.term_bench.specs.declared.turn.Turn.{Turn}
use Rattle.term_bench.proofs.BenchLemmas.{ended_size, there_is}
use Rattle.term_model.specs.Choosing.{Filled}
use Rattle.term_model.specs.OctetIn.{bits_in}
use Rattle.term_model.specs.OctetOut.{Appends}
use Rattle.term_model.specs.Terminal.{Terminal}
use Rattle.term_model.specs.Turn.{turn_talk}
use Rattle.term_model.specs.declared.command.Command.{Command}
use Rattle.term_bench.proofs.MarksThere.{marks_there}
use Rattle.term_bench.proofs.NarrowThere.{narrow_there, state_gives}

-- A LINK CHANGES.
pub length_set : (links : List AtLink) (n : ℕ) (at : AtLink) → length (slice_set links n at) ≡ length links
length_set [] n at = refl
length_set (x ∷ links) zero at = refl
length_set (x ∷ links) (suc n) at = ap suc (length_set links n at)

pub few_set : (links : List AtLink) (n : ℕ) (now : AtLink) → FewWait links → length now.waiting < 8 → FewWait (slice_set links n now)
few_set [] n now few short m at there = absurd (cc there)
few_set (x ∷ links) zero now few short zero at there =
    let same : now ≡ at = cc in subst (λ (a : AtLink). length a.waiting < 8) same short
few_set (x ∷ links) zero now few short (suc m) at there = few (suc m) at there
few_set (x ∷ links) (suc n) now few short zero at there = few 0 at there
few_set (x ∷ links) (suc n) now few short (suc m) at there =
    few_set links n now (λ k a is. few (suc k) a is) short m at there

ended_waiting : (link : ℕ) (s t : State) (at : AtLink) → (ended_at link s t at).waiting ≡ at.waiting
ended_waiting link s t at = go (was_late link s t && not (is_out (state_of at.terminal)))
  where
    go : (b : Bool) → (if b then told_at Command.Stop at else at).waiting ≡ at.waiting
    go true = refl
    go false = refl

few_ended : (link : ℕ) (s t : State) (links : List AtLink) → FewWait links → FewWait (ended_from link s t links)
few_ended link s t [] few n at there = absurd (cc there)
few_ended link s t (x ∷ links) few zero at there =
    let same : ended_at link s t x ≡ at = cc in
    subst (λ (a : AtLink). length a.waiting < 8) same
    (subst (λ (w : List Bool). length w < 8) (sym (ended_waiting link s t x)) (few 0 x refl))
few_ended link s t (x ∷ links) few (suc n) at there =
    few_ended (suc link) s t links (λ k a is. few (suc k) a is) n at there

-- A TURN.
appends_there : (unit : Option SignalUnit) (old : List Bool) → (new : List Bool) × Appends unit old new
appends_there None old = (old, refl)
appends_there (Some unit) old =
    let content = line_bits (sealed_text (text Narrow unit)) in
    (old ++ text_after 0 content ++ flag, record { wire = text_after 0 content; stuffed = has_text content; appended = refl })

-- there's one, and the bench is ready then
abbrev HasTurn : ℕ → ℕ → ℕ → BenchState → Type 0
HasTurn links link octet old =
    (turn : Turn) × (unit : Option SignalUnit) × (new : BenchState) × Turns link octet old turn unit new × IsReady links new

turn_there : (links link octet : ℕ) (old : BenchState) → IsReady links old → link < links → HasTurn links link octet old
turn_there links link octet old ready below =
    let there = there_is old.links link (subst (λ n. link < n) (sym ready.count) below) in
    let was : AtLink = there.0 in
    let s : State = old.set.state in
    let given = marks_there (line_bits was.heard) (bits_in (Some octet)) in
    let talk = turn_talk given.0 was.terminal in
    let filled : Filled = outcome_with talk s in
    let appended = appends_there filled.unit filled.after.bits in
    let put : ℕ = number_of (take 8 appended.0) in
    let terminal : Terminal = record filled.after { bits = drop 8 appended.0 } in
    let now : AtLink = record was {
      terminal = terminal;
      heard = was.heard ++ octet ∷ [];
      counts = counts_after was.counts given.0 filled.unit;
    } in
    let entries : List Entry = entries_with talk (TerminalOf link) s in
    let set : LinkSet = record { base = old.set.base; state = state_with talk s; history = old.set.history ++ entries } in
    let new : BenchState = record { set = set; links = ended_from 0 s (state_with talk s) (slice_set old.links link now) } in
    let turn : Turn = record {
      number = now.counts.turns;
      put = put;
      messages = messages_heard entries;
      sent = length (option_to_list filled.unit);
      before = word_of was.terminal;
      after = word_of terminal;
      cause = terminal.cause;
    } in (
      turn,
      filled.unit,
      new,
      record {
        was = was;
        now = now;
        is_at = there.1;
        takes = record {
          entries = entries;
          by_octet = record {
            marks = given.0;
            gives = given.1;
            entries_are = refl;
            state_is = refl;
            narrow = narrow_there given.0 was.terminal s ready.gives;
            unit_is = refl;
            puts = record { bits = appended.0; appends = appended.1; has_room = true; put_is = refl; after_is = refl };
            at_is = refl;
          };
          base_is = refl;
          history_is = refl;
          messages_are = refl;
          sent_is = refl;
          before_is = refl;
          after_is = refl;
          number_is = refl;
          cause_is = refl;
        };
        links_are = refl;
      },
      record {
        gives = state_gives talk s ready.gives;
        settings = ready.settings;
        narrow = ready.narrow;
        count = ended_size s (state_with talk s) (slice_set old.links link now) ∙ length_set old.links link now ∙ ready.count;
        few = few_ended 0 s (state_with talk s) (slice_set old.links link now)
            (few_set old.links link now ready.few (ready.few link was there.1));
      },
    )

-- WHAT COMES, PIECE BY PIECE.
abbrev HasHearing : ℕ → ℕ → List Bool → BenchState → Type 0
HasHearing links link bits old =
    (turn : Option TurnAndUnit) × (new : BenchState) × HearsPiece link bits old turn new × IsReady links new

waits_there : (links link : ℕ) (bits : List Bool) (old : BenchState) (was : AtLink) → IsReady links old
    → slice_get old.links link ≡ Some was → length (was.waiting ++ bits) < 8 → HasHearing links link bits old
waits_there links link bits old was ready is_at few =
    let now : AtLink = waits_with (was.waiting ++ bits) was in (
      None,
      record { set = old.set; links = slice_set old.links link now },
      record { was = was; is_at = is_at; few = few; links_are = refl; set_is = refl },
      record {
        gives = ready.gives;
        settings = ready.settings;
        narrow = ready.narrow;
        count = length_set old.links link now ∙ ready.count;
        few = few_set old.links link now ready.few few;
      },
    )

whole_there : (links link : ℕ) (bits : List Bool) (old : BenchState) (was : AtLink) → IsReady links old → link < links
    → slice_get old.links link ≡ Some was → length bits ≤ 8 → 8 ≤ length (was.waiting ++ bits) → HasHearing links link bits old
whole_there links link bits old was ready below is_at short enough =
    let all : List Bool = was.waiting ++ bits in
    let left : AtLink = waits_with (drop 8 all) was in
    let between : BenchState = record { set = old.set; links = slice_set old.links link left } in
    let few : length (drop 8 all) < 8 =
    omega (arith, length-drop 8 all, length-append was.waiting bits, short, ready.few link was is_at) in
    let octet : ℕ = number_of (take 8 all) in
    let one = turn_there links link octet between (record {
      gives = ready.gives;
      settings = ready.settings;
      narrow = ready.narrow;
      count = length_set old.links link left ∙ ready.count;
      few = few_set old.links link left ready.few few;
    }) below in (
      Some (record { turn = one.0; unit = one.1 }),
      one.2,
      record {
        octet = octet;
        between = between;
        completes = record { was = was; is_at = is_at; enough = enough; octet_is = refl; links_are = refl; set_is = refl };
        turns = one.3;
      },
      one.4,
    )

-- fewer than so many, or not
fewer : (n m : ℕ) → (n < m) ⊎ (m ≤ n)
fewer n zero = inr (omega arith)
fewer zero (suc m) = inl (omega arith)
fewer (suc n) (suc m) =
    elim (fewer n m) [
      | inl few ↦ inl (omega (arith, few))
      | inr enough ↦ inr (omega (arith, enough))
    ]

piece_there : (links link : ℕ) (bits : List Bool) (old : BenchState) → IsReady links old → link < links → length bits ≤ 8
    → HasHearing links link bits old
piece_there links link bits old ready below short =
    let there = there_is old.links link (subst (λ n. link < n) (sym ready.count) below) in
    elim (fewer (length (there.0.waiting ++ bits)) 8) [
      | inl few ↦ waits_there links link bits old there.0 ready there.1 few
      | inr enough ↦ whole_there links link bits old there.0 ready below there.1 short enough
    ]

pub pieces_there : EachIsHeard
pieces_there links link [] old ready below short = ([], old, (refl, refl), ready)
pieces_there links link (bits ∷ pieces) old ready below short =
    let one = piece_there links link bits old ready below short.0 in
    let rest = pieces_there links link pieces one.1 one.3 below short.1 in (
      option_to_list one.0 ++ rest.0,
      rest.1,
      (one.1, one.0, rest.0, one.2, rest.2, refl),
      rest.3,
    )
