-- A link at the bench.
use Rattle.std.proofs.Common.{refl, sym, ap, subst, ◌≡◌, ◌∙◌, ℕ, ◌+◌, Bool, true, false, List, [], ◌∷◌, ◌++◌, length, Option, Some, None, add-one, inl, inr, slice_get, slice_set}
use Rattle.std.proofs.Common.{arith, zero, suc, ◌<◌, ◌≤◌, get_or, length-append}
use Rattle.std.proofs.Math.Seq.{get_or-append_seam}
use Rattle.std.proofs.lemmas.Bool.{cases_lt}
use Rattle.std.proofs.lemmas.List.{append-nil, get_or_append_left}
use Rattle.std.proofs.lemmas.Option.{get_or_from_slice_get, slice_get-get_or, slice_get_within}
use Rattle.std.specs.Option.{option_to_list}
use Rattle.l2_bits.proofs.BitLemmas.{bits_of-zero}
use Rattle.l2_bits.specs.LineBits.{bits_of}
use Rattle.l2_bits.specs.declared.marks.Mark.{Mark}
use Rattle.l2_units.specs.declared.unit.Unit.{Unit as SignalUnit}
use Rattle.link_term.specs.Filling.{with_unit}
use Rattle.link_term.specs.Octets.{counts_of}
use Rattle.link_term.specs.Turning.{one_if_chosen}
use Rattle.link_term.specs.declared.counts.Filling.{Filling}
use Rattle.link_term.specs.declared.counts.MarkCounts.{MarkCounts}
use Rattle.link_term.specs.declared.counts.Turned.{Turned}
use Rattle.link_term.specs.declared.fault.TermFault.{TermFault}
use Rattle.link_term.specs.declared.works.Works.{Works}
use Rattle.set_events.specs.declared.history.Entry.{Entry}
use Rattle.set_model.proofs.Lists.{at_set}
use Rattle.set_model.specs.History.{LinkSet}
use Rattle.term_model.specs.Terminal.{Terminal, opened}
use Rattle.term_model.specs.declared.timers.Timers.{Timers}
use Rattle.term_bench.specs.Ends.{AreNumbered, AtLink, at_link, new_link, new_links, no_counts, word_of}
use Rattle.term_bench.specs.Taking.{Takes}
use Rattle.term_bench.specs.Turns.{BreaksOff, FailsBy, fails_now, had_failed, TakesTurn, counts_after}
use Rattle.term_bench.specs.declared.counts.TurnCounts.{TurnCounts}
use Rattle.term_bench.specs.declared.turn.Turn.{Turn}

at_parts : (t t' : Terminal) (heard heard' : List ℕ) (waiting waiting' : List Bool) (counts counts' : TurnCounts) (failed failed' : Bool)
    → t ≡ t' → heard ≡ heard' → waiting ≡ waiting' → counts ≡ counts' → failed ≡ failed'
    → ◌≡◌ {A = AtLink} (record { terminal = t; heard = heard; waiting = waiting; counts = counts; failed = failed }) (record { terminal = t'; heard = heard'; waiting = waiting'; counts = counts'; failed = failed' })
at_parts t t' heard heard' waiting waiting' counts counts' failed failed' a b c d e =
    ap (λ (x : Terminal). the_link x heard waiting counts failed) a
    ∙ ap (λ (x : List ℕ). the_link t' x waiting counts failed) b
    ∙ ap (λ (x : List Bool). the_link t' heard' x counts failed) c
    ∙ ap (λ (x : TurnCounts). the_link t' heard' waiting' x failed) d
    ∙ ap (λ (x : Bool). the_link t' heard' waiting' counts' x) e
  where
    the_link : Terminal → List ℕ → List Bool → TurnCounts → Bool → AtLink
    the_link t heard waiting counts failed = record { terminal = t; heard = heard; waiting = waiting; counts = counts; failed = failed }

-- new works are those of a new link
pub new_at : (works : Works) (lengths : Timers) (link : ℕ) → works.inside ≡ opened link lengths → works.taken ≡ []
    → works.failed ≡ false → at_link works 0 0 no_counts ≡ new_link lengths link
new_at works lengths link inside taken failed =
    at_parts works.inside (opened link lengths) works.taken [] (bits_of 0 0) [] no_counts no_counts works.failed false inside taken (bits_of-zero 0) refl failed

-- one link more
pub links_more : (lengths : Timers) (links : List AtLink) (link : AtLink) (n : ℕ) → links ≡ new_links lengths n
    → link ≡ new_link lengths n → links ++ link ∷ [] ≡ new_links lengths (n + 1)
links_more lengths links link n are is =
    ap (λ (ls : List AtLink). ls ++ link ∷ []) are ∙ ap (λ (l : AtLink). new_links lengths n ++ l ∷ []) is
    ∙ sym (ap (λ m. new_links lengths m) (add-one n))

-- a unit that was appended is counted
one_unit : (unit : Option SignalUnit) → one_if_chosen (with_unit unit) ≡ length (option_to_list unit)
one_unit None = refl
one_unit (Some unit) = refl

pub units_are : (filling : Filling) (unit : Option SignalUnit) → filling ≡ with_unit unit → one_if_chosen filling ≡ length (option_to_list unit)
units_are filling unit is = ap (λ (f : Filling). one_if_chosen f) is ∙ one_unit unit

-- what one turn more counts
pub record CountsOne (counts : TurnCounts) (turned : Turned) (counts' : TurnCounts) : Type 0 where
  pub turns : counts'.turns ≡ counts.turns + 1
  pub sent : counts'.sent ≡ counts.sent + one_if_chosen turned.filling
  pub good : counts'.good ≡ counts.good + turned.marks.good
  pub bad : counts'.bad ≡ counts.bad + turned.marks.bad
  pub sixteen : counts'.sixteen ≡ counts.sixteen + turned.marks.sixteen

counts_are : (counts counts' : TurnCounts) (turned : Turned) (marks : List Mark) (unit : Option SignalUnit)
    → CountsOne counts turned counts' → turned.marks ≡ counts_of marks → turned.filling ≡ with_unit unit
    → counts' ≡ counts_after counts marks unit
counts_are counts counts' turned marks unit one heard filled =
    let all = counts_after counts marks unit in
    ap (λ n. record counts' { turns = n }) one.turns
    ∙ ap (λ n. record counts' { turns = all.turns; sent = n }) (one.sent ∙ ap (λ n. counts.sent + n) (units_are turned.filling unit filled))
    ∙ ap (λ n. record counts' { turns = all.turns; sent = all.sent; good = n }) (one.good ∙ ap (λ (m : MarkCounts). counts.good + m.good) heard)
    ∙ ap (λ n. record counts' { turns = all.turns; sent = all.sent; good = all.good; bad = n }) (one.bad ∙ ap (λ (m : MarkCounts). counts.bad + m.bad) heard)
    ∙ ap (λ n. record all { sixteen = n }) (one.sixteen ∙ ap (λ (m : MarkCounts). counts.sixteen + m.sixteen) heard)

-- the turn of its works is the link's
pub takes_turn : (link octet : ℕ) (set set' : LinkSet) (heard : ℕ) (works works' : Works) (bits waiting : ℕ) (counts counts' : TurnCounts)
    (turned : Turned) (unit : Option SignalUnit) (turn : Turn)
    → Takes link octet set set' heard works.taken works'.taken works.inside works'.inside turn.put turned unit
    → works.failed ≡ false → works'.failed ≡ false → CountsOne counts turned counts'
    → turn.messages ≡ heard → turn.sent ≡ one_if_chosen turned.filling
    → turn.before ≡ word_of works.inside → turn.after ≡ word_of works'.inside
    → turn.number ≡ counts'.turns → turn.cause ≡ works'.inside.cause
    → TakesTurn link octet set (at_link works bits waiting counts) turn unit set' (at_link works' bits waiting counts')
takes_turn link octet set set' heard works works' bits waiting counts counts' turned unit turn takes went goes_on one messages sent before after number cause = record {
  entries = takes.entries;
  by_octet = record {
    marks = takes.marks;
    gives = takes.gives;
    entries_are = takes.entries_are;
    state_is = takes.state_is;
    narrow = takes.narrow;
    unit_is = takes.unit_is;
    puts = takes.puts;
    at_is = at_parts works'.inside works'.inside works'.taken (works.taken ++ octet ∷ []) (bits_of waiting bits) (bits_of waiting bits)
        counts' (counts_after counts takes.marks unit) works'.failed works.failed refl takes.taken_is refl
        (counts_are counts counts' turned takes.marks unit one takes.marks_are takes.filling_is) (goes_on ∙ sym went);
  };
  base_is = takes.base_is;
  history_is = takes.history_is;
  messages_are = messages ∙ takes.heard_is;
  sent_is = sent ∙ units_are turned.filling unit takes.filling_is;
  before_is = before;
  after_is = after;
  number_is = number;
  cause_is = cause;
}

-- a turn of its works that was broken off is the link's
pub breaks_off : (octet : ℕ) (fault : TermFault) (works works' : Works) (bits waiting : ℕ) (counts : TurnCounts)
    (set set' : LinkSet) (failed : Bool) → works.failed ≡ failed
    → (works.failed ≡ true → (fault ≡ TermFault.Failed) × (works' ≡ works) × (set'.history ≡ set.history))
    → (works.failed ≡ false → (entries : List Entry) × (set'.history ≡ set.history ++ entries)
    × FailsBy octet fault works.taken works'.taken works.inside works'.inside set set' entries)
    → works'.failed ≡ true
    → (entries : List Entry) × (set'.history ≡ set.history ++ entries)
    × BreaksOff octet fault set set' (at_link works bits waiting counts) (at_link works' bits waiting counts) entries
breaks_off octet fault works works' bits waiting counts set set' true is stopped breaks fails =
    let nothing = stopped is in (
      [],
      nothing.2 ∙ sym (append-nil set.history),
      record {
        why = had_failed nothing.0 is (ap (λ (w : Works). at_link w bits waiting counts) nothing.1) refl;
        counts_are = refl;
        waiting_are = refl;
        fails = λ fewer. fails;
      },
    )
breaks_off octet fault works works' bits waiting counts set set' false is stopped breaks fails =
    let so = breaks is in (
      so.0,
      so.1,
      record {
        why = fails_now is so.2;
        counts_are = refl;
        waiting_are = refl;
        fails = λ fewer. fails;
      },
    )

-- a link that changes keeps its number
pub numbered_set : (links : List AtLink) (n : ℕ) (was now : AtLink) → AreNumbered links → slice_get links n ≡ Some was
    → now.terminal.link ≡ was.terminal.link → AreNumbered (slice_set links n now)
numbered_set links n was now numbered is_at same m at there =
    elim (at_set links n m now at there) [
      | inl here ↦ ap (λ (a : AtLink). a.terminal.link) here.1 ∙ same ∙ numbered n was is_at ∙ sym here.0
      | inr other ↦ numbered m at other.1
    ]

-- one link more, numbered by its place
numbered_more : (links : List AtLink) (n : ℕ) (link : AtLink) → length links ≡ n → link.terminal.link ≡ n → AreNumbered links
    → AreNumbered (links ++ link ∷ [])
numbered_more links n link count is numbered m at there =
    let within : m < length (links ++ link ∷ []) = slice_get_within (links ++ link ∷ []) m at there in
    let read : get_or (links ++ link ∷ []) m at ≡ at = get_or_from_slice_get (links ++ link ∷ []) m at at there in
    elim (cases_lt m (length links)) [
      | inl low ↦ numbered m at (slice_get-get_or links m at low
          ∙ ap (λ (x : AtLink). Some x) (sym (get_or_append_left links (link ∷ []) at m low) ∙ read))
      | inr high ↦
          let last : m ≡ length links = omega (arith, within, high, length-append links (link ∷ [])) in
          let one : at ≡ link = sym read ∙ ap (λ i. get_or (links ++ link ∷ []) i at) last ∙ get_or-append_seam links link [] at in
          ap (λ (x : AtLink). x.terminal.link) one ∙ is ∙ sym count ∙ sym last
    ]

length_new : (lengths : Timers) (n : ℕ) → length (new_links lengths n) ≡ n
length_new lengths zero = refl
length_new lengths (suc n) = length-append (new_links lengths n) (new_link lengths n ∷ []) ∙ ap (λ m. m + 1) (length_new lengths n) ∙ add-one n

numbered_new : (lengths : Timers) (n : ℕ) → AreNumbered (new_links lengths n)
numbered_new lengths zero = λ m at there. let nothing : ◌≡◌ {A = Option AtLink} None (Some at) = there in cc
numbered_new lengths (suc n) = numbered_more (new_links lengths n) n (new_link lengths n) (length_new lengths n) refl (numbered_new lengths n)

-- new links are numbered by their places, and few
pub new_are_numbered : (links : List AtLink) (lengths : Timers) (n : ℕ) → links ≡ new_links lengths n → n ≤ 16
    → AreNumbered links × (length links ≤ 16)
new_are_numbered links lengths n are few = (
  subst (λ (ls : List AtLink). AreNumbered ls) (sym are) (numbered_new lengths n),
  omega (arith, few, ap (λ (ls : List AtLink). length ls) are, length_new lengths n),
)
