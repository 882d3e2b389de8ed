-- What came on a line decides what a bench does: one lemma for each of the definitions, from a unit on a line upwards.
use Rattle.std.proofs.Common.{refl, sym, ap, subst, arith, ◌≡◌, ◌∙◌, ◌≤◌, ℕ, Bool, true, false, List, [], ◌∷◌, ◌++◌, length, take, drop, Option, None, Some, slice_get, slice_set}
use Rattle.std.specs.Option.{option_to_list}
use Rattle.l2_bits.proofs.MarkLemmas.{marks_alone}
use Rattle.l2_bits.proofs.StuffingLemmas.{one_text}
use Rattle.l2_bits.specs.Flags.{flag}
use Rattle.l2_bits.specs.LineBits.{line_bits, number_of}
use Rattle.l2_bits.specs.declared.marks.Mark.{Mark}
use Rattle.l2_units.specs.declared.cause.Cause.{Cause}
use Rattle.l2_units.specs.declared.unit.Unit.{Unit as SignalUnit}
use Rattle.set_events.specs.declared.event.Actor.{Actor}
use Rattle.set_events.specs.declared.event.Actor.TheVariants.{Terminal as TerminalOf}
use Rattle.set_events.specs.declared.history.Entry.{Entry}
use Rattle.set_model.specs.History.{Base, LinkSet}
use Rattle.set_model.specs.State.{State}
use Rattle.term_model.specs.Choosing.{Filled}
use Rattle.term_model.specs.OctetIn.{bits_in}
use Rattle.term_model.specs.OctetOut.{Appends, PutsOctet, put_of, left_of}
use Rattle.term_model.specs.Terminal.{Terminal}
use Rattle.term_model.specs.Turn.{turn_talk}
use Rattle.term_bench.specs.Late.{ended_from}
use Rattle.term_bench.specs.Ends.{AtLink, BenchState, word_of}
use Rattle.term_bench.specs.Talks.{entries_with, outcome_with, state_with}
use Rattle.term_bench.specs.Turns.{IsTurnBy, TakesTurn, Turns, counts_after, messages_heard}
use Rattle.term_bench.specs.Waiting.{Completes, Hears, HearsPiece, HearsPieces, OneHearing, TurnAndUnit, Waits, waits_with}
use Rattle.term_bench.specs.declared.turn.Turn.{Turn}
use Rattle.term_bench.specs.declared.word.LinkWord.{LinkWord}

-- An octet out.

appends_alone : (unit : Option SignalUnit) (old a b : List Bool) → Appends unit old a → Appends unit old b → a ≡ b
appends_alone None old a b x y = x ∙ sym y
appends_alone (Some unit) old a b x y =
    x.appended ∙ ap (λ (w : List Bool). old ++ w ++ flag) (one_text _ x.wire y.wire x.stuffed y.stuffed) ∙ sym y.appended

has_room : (room : Bool) (bits : List Bool) (put : ℕ) → put ∷ [] ≡ put_of room bits → room ≡ true
has_room true bits put is = refl
has_room false bits put is = absurd cc

one_put : (p q : ℕ) (bits : List Bool) → p ∷ [] ≡ number_of (take 8 bits) ∷ [] → q ∷ [] ≡ number_of (take 8 bits) ∷ [] → p ≡ q
one_put p q bits x y = cc

pub puts_alone : (f : Filled) (p q : ℕ) (x y : Terminal) → PutsOctet f (p ∷ []) x → PutsOctet f (q ∷ []) y
    → (p ≡ q) × (x ≡ y)
puts_alone f p q x y a b =
    let bits = appends_alone f.unit f.after.bits a.bits b.bits a.appends b.appends in
    let room_a = has_room a.has_room a.bits p a.put_is in
    let room_b = has_room b.has_room b.bits q b.put_is in (
      one_put p q b.bits
          (a.put_is ∙ ap (λ r. put_of r a.bits) room_a ∙ ap (λ (all : List Bool). put_of true all) bits)
          (b.put_is ∙ ap (λ r. put_of r b.bits) room_b),
      a.after_is
          ∙ ap (λ r. record f.after { bits = left_of r a.bits }) (room_a ∙ sym room_b)
          ∙ ap (λ (all : List Bool). record f.after { bits = left_of b.has_room all }) bits
          ∙ sym b.after_is,
    )

-- A turn by an octet.

pub record AreOne (put put' : ℕ) (entries entries' : List Entry) (unit unit' : Option SignalUnit) (s s' : State)
    (at at' : AtLink) : Type 0 where
  pub puts : put ≡ put'
  pub asked : entries ≡ entries'
  pub units : unit ≡ unit'
  pub states : s ≡ s'
  pub links : at ≡ at'

pub turn_alone : (octet : ℕ) (who : Actor) (s : State) (at : AtLink) (put put' : ℕ) (entries entries' : List Entry)
    (unit unit' : Option SignalUnit) (x y : State) (now now' : AtLink)
    → IsTurnBy octet who s at put entries unit x now → IsTurnBy octet who s at put' entries' unit' y now'
    → AreOne put put' entries entries' unit unit' x y now now'
turn_alone octet who s at put put' entries entries' unit unit' x y now now' a b =
    let marks = marks_alone (line_bits at.heard) (bits_in (Some octet)) a.marks b.marks a.gives b.gives in
    let units : unit ≡ unit' = a.unit_is
    ∙ ap (λ (m : List Mark). (outcome_with (turn_talk m at.terminal) s).unit) marks ∙ sym b.unit_is in
    let puts = puts_alone (outcome_with (turn_talk b.marks at.terminal) s) put put' now.terminal now'.terminal
    (subst (λ (m : List Mark). PutsOctet (outcome_with (turn_talk m at.terminal) s) (put ∷ []) now.terminal) marks a.puts) b.puts in
    record {
      puts = puts.0;
      asked = a.entries_are ∙ ap (λ (m : List Mark). entries_with (turn_talk m at.terminal) who s) marks ∙ sym b.entries_are;
      units = units;
      states = a.state_is ∙ ap (λ (m : List Mark). state_with (turn_talk m at.terminal) s) marks ∙ sym b.state_is;
      links = a.at_is
          ∙ ap (λ (t : Terminal). made t a.marks unit) puts.1
          ∙ ap (λ (m : List Mark). made now'.terminal m unit) marks
          ∙ ap (λ (u : Option SignalUnit). made now'.terminal b.marks u) units
          ∙ sym b.at_is;
    }
  where
    made : Terminal → List Mark → Option SignalUnit → AtLink
    made t marks u = record at { terminal = t; heard = at.heard ++ octet ∷ []; counts = counts_after at.counts marks u }

same_turn : (a b : Turn) → a.number ≡ b.number → a.put ≡ b.put → a.messages ≡ b.messages → a.sent ≡ b.sent
    → a.before ≡ b.before → a.after ≡ b.after → a.cause ≡ b.cause → a ≡ b
same_turn a b number put messages sent before after cause =
    ap (λ n. record a { number = n }) number
    ∙ ap (λ n. record a { number = b.number; put = n }) put
    ∙ ap (λ n. record a { number = b.number; put = b.put; messages = n }) messages
    ∙ ap (λ n. record b { sent = n; before = a.before; after = a.after; cause = a.cause }) sent
    ∙ ap (λ (w : LinkWord). record b { before = w; after = a.after; cause = a.cause }) before
    ∙ ap (λ (w : LinkWord). record b { after = w; cause = a.cause }) after
    ∙ ap (λ (c : Option Cause). record b { cause = c }) cause

pub same_set : (a b : LinkSet) → a.base ≡ b.base → a.state ≡ b.state → a.history ≡ b.history → a ≡ b
same_set a b base state history =
    ap (λ (x : Base). record a { base = x }) base
    ∙ ap (λ (x : State). record a { base = b.base; state = x }) state
    ∙ ap (λ (x : List Entry). record b { history = x }) history

pub same_bench : (a b : BenchState) → a.set ≡ b.set → a.links ≡ b.links → a ≡ b
same_bench a b set links =
    ap (λ (x : LinkSet). record a { set = x }) set ∙ ap (λ (x : List AtLink). record b { links = x }) links

pub one_there : (links : List AtLink) (link : ℕ) (a b : AtLink) → slice_get links link ≡ Some a → slice_get links link ≡ Some b → a ≡ b
one_there links link a b x y = let both : Some a ≡ Some b = sym x ∙ y in cc

pub record AreOneTurn (a b : Turn) (u v : Option SignalUnit) (x y : BenchState) : Type 0 where
  pub turns : a ≡ b
  pub units : u ≡ v
  pub benches : x ≡ y

takes_alone : (link octet : ℕ) (set : LinkSet) (was : AtLink) (a b : Turn) (u v : Option SignalUnit) (x y : LinkSet)
    (now now' : AtLink) → TakesTurn link octet set was a u x now → TakesTurn link octet set was b v y now'
    → (a ≡ b) × (u ≡ v) × (x ≡ y) × (now ≡ now')
takes_alone link octet set was a b u v x y now now' first second =
    let one = turn_alone octet (TerminalOf link) set.state was a.put b.put first.entries second.entries u v x.state y.state now now'
    first.by_octet second.by_octet in
    let stands : now.terminal ≡ now'.terminal = ap (λ (at : AtLink). at.terminal) one.links in (
      same_turn a b
          (first.number_is ∙ ap (λ (at : AtLink). at.counts.turns) one.links ∙ sym second.number_is)
          one.puts
          (first.messages_are ∙ ap (λ (es : List Entry). messages_heard es) one.asked ∙ sym second.messages_are)
          (first.sent_is ∙ ap (λ (w : Option SignalUnit). length (option_to_list w)) one.units ∙ sym second.sent_is)
          (first.before_is ∙ sym second.before_is)
          (first.after_is ∙ ap (λ (t : Terminal). word_of t) stands ∙ sym second.after_is)
          (first.cause_is ∙ ap (λ (t : Terminal). t.cause) stands ∙ sym second.cause_is),
      one.units,
      same_set x y (first.base_is ∙ sym second.base_is) one.states
          (first.history_is ∙ ap (λ (es : List Entry). set.history ++ es) one.asked ∙ sym second.history_is),
      one.links,
    )

pub turns_alone : (link octet : ℕ) (old : BenchState) (a b : Turn) (u v : Option SignalUnit) (x y : BenchState)
    → Turns link octet old a u x → Turns link octet old b v y → AreOneTurn a b u v x y
turns_alone link octet old a b u v x y first second =
    let was = one_there old.links link first.was second.was first.is_at second.is_at in
    let one = takes_alone link octet old.set second.was a b u v x.set y.set first.now second.now
    (subst (λ (at : AtLink). TakesTurn link octet old.set at a u x.set first.now) was first.takes) second.takes in record {
      turns = one.0;
      units = one.1;
      benches = same_bench x y one.2
          (first.links_are ∙ ap (λ (at : AtLink). ended_from 0 old.set.state x.set.state (slice_set old.links link at)) one.3
          ∙ ap (λ (s : LinkSet). ended_from 0 old.set.state s.state (slice_set old.links link second.now)) one.2 ∙ sym second.links_are);
    }

-- Bits that come.

completes_alone : (link : ℕ) (bits : List Bool) (old : BenchState) (octet octet' : ℕ) (x y : BenchState)
    → Completes link bits old octet x → Completes link bits old octet' y → (octet ≡ octet') × (x ≡ y)
completes_alone link bits old octet octet' x y a b =
    let was = one_there old.links link a.was b.was a.is_at b.is_at in (
      a.octet_is ∙ ap (λ (at : AtLink). number_of (take 8 (at.waiting ++ bits))) was ∙ sym b.octet_is,
      same_bench x y (a.set_is ∙ sym b.set_is)
          (a.links_are ∙ ap (λ (at : AtLink). slice_set old.links link (waits_with (drop 8 (at.waiting ++ bits)) at)) was ∙ sym b.links_are),
    )

hears_alone : (link : ℕ) (bits : List Bool) (old : BenchState) (a b : Turn) (u v : Option SignalUnit) (x y : BenchState)
    → Hears link bits old a u x → Hears link bits old b v y → AreOneTurn a b u v x y
hears_alone link bits old a b u v x y first second =
    let one = completes_alone link bits old first.octet second.octet first.between second.between first.completes second.completes in
    turns_alone link second.octet second.between a b u v x y
    (subst (λ (n : ℕ). Turns link n second.between a u x) one.0
    (subst (λ (s : BenchState). Turns link first.octet s a u x) one.1 first.turns)) second.turns

waits_alone : (link : ℕ) (bits : List Bool) (old x y : BenchState) → Waits link bits old x → Waits link bits old y → x ≡ y
waits_alone link bits old x y a b =
    let was = one_there old.links link a.was b.was a.is_at b.is_at in
    same_bench x y (a.set_is ∙ sym b.set_is)
    (a.links_are ∙ ap (λ (at : AtLink). slice_set old.links link (waits_with (at.waiting ++ bits) at)) was ∙ sym b.links_are)

-- an octet is whole, or it isn't
not_both : (link : ℕ) (bits : List Bool) (old : BenchState) (turn : Turn) (unit : Option SignalUnit) (x y : BenchState)
    → Hears link bits old turn unit x → Waits link bits old y → ⊥
not_both link bits old turn unit x y hears waits =
    let was = one_there old.links link hears.completes.was waits.was hears.completes.is_at waits.is_at in
    let long : 8 ≤ length (waits.was.waiting ++ bits) =
    subst (λ (at : AtLink). 8 ≤ length (at.waiting ++ bits)) was hears.completes.enough in
    omega (arith, long, waits.few)

same_shown : (a b : TurnAndUnit) → a.turn ≡ b.turn → a.unit ≡ b.unit → a ≡ b
same_shown a b turn unit =
    ap (λ (t : Turn). record a { turn = t }) turn ∙ ap (λ (u : Option SignalUnit). record b { unit = u }) unit

piece_alone : (link : ℕ) (bits : List Bool) (old : BenchState) (a b : Option TurnAndUnit) (x y : BenchState)
    → HearsPiece link bits old a x → HearsPiece link bits old b y → (a ≡ b) × (x ≡ y)
piece_alone link bits old None None x y first second = (refl, waits_alone link bits old x y first second)
piece_alone link bits old None (Some b) x y first second = absurd (not_both link bits old b.turn b.unit y x second first)
piece_alone link bits old (Some a) None x y first second = absurd (not_both link bits old a.turn a.unit x y first second)
piece_alone link bits old (Some a) (Some b) x y first second =
    let one = hears_alone link bits old a.turn b.turn a.unit b.unit x y first second in
    (ap (λ (t : TurnAndUnit). Some t) (same_shown a b one.turns one.units), one.benches)

pub one_hearing : OneHearing
one_hearing link [] old a b x y first second = (first.0 ∙ sym second.0, first.1 ∙ sym second.1)
one_hearing link (bits ∷ pieces) old a b x y first second =
    let one = piece_alone link bits old first.1 second.1 first.0 second.0 first.3 second.3 in
    let rest = one_hearing link pieces second.0 first.2 second.2 x y
    (subst (λ (s : BenchState). HearsPieces link pieces s first.2 x) one.1 first.4) second.4 in (
      first.5 ∙ ap (λ (t : Option TurnAndUnit). option_to_list t ++ first.2) one.0
          ∙ ap (λ (ts : List TurnAndUnit). option_to_list second.1 ++ ts) rest.0 ∙ sym second.5,
      rest.1,
    )
