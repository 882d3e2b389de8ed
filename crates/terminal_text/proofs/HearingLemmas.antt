-- What came on a line, piece by piece.
use Rattle.std.proofs.Common.{refl, sym, ap, subst, arith, ◌≡◌, ◌∙◌, ◌<◌, ℕ, suc, ◌+◌, ◌&&◌, Bool, true, false, List, [], ◌∷◌, ◌++◌, length, length-append, map, append_assoc, append-nil, Option, None, Some}
use Rattle.std.proofs.lemmas.List.{length-map}
use Rattle.l2_bits.proofs.BitLemmas.{length-bits_of}
use Rattle.std.proofs.Common.{ap₂, add-one, get_or, take, Result, Ok, Err, OnOk}
use Rattle.std.proofs.lemmas.List.{map-append}
use Rattle.std.proofs.lemmas.List.{take_more}
use Rattle.l2_bits.proofs.StuffingLemmas.{has_text, one_text as one_stuffing}
use Rattle.l2_bits.specs.Flags.{flag}
use Rattle.l2_bits.specs.SealedText.{sealed_text}
use Rattle.l2_bits.specs.Stuffing.{AppendsText, text_after}
use Rattle.link_term.specs.Filling.{Taps}
use Rattle.link_term.specs.declared.tap.LastUnit.{LastUnit}
use Rattle.std.specs.Option.{option_to_list}
use Rattle.set_events.specs.declared.history.Entry.{Entry}
use Rattle.term_managed.specs.Ends.{ManagedState}
use Rattle.terminal_text.specs.declared.forgetting.Forgetting.{Forgetting}
use Rattle.term_managed.specs.Turns.{HeardTurn, Hears as HearsTurn, HearsBit, HearsPiece, TurnAndDeeds, Waits}
use Rattle.text_base.specs.Figures.{hex_text}
use Rattle.l2_bits.specs.LineBits.{bits_of, line_bits}
use Rattle.l2_units.specs.declared.unit.Unit.{Unit as SignalUnit}
use Rattle.terminal_text.proofs.RowLemmas.{shows_more, shows_nothing}
use Rattle.terminal_text.specs.Answers.{AsManyGoOut, Exchanges, HearsLine, one_by_one, unit_bits}
use Rattle.terminal_text.specs.Hearing.{Exchanging, Hears}
use Rattle.terminal_text.specs.Rows.{Shows, left_of}
use Rattle.terminal_text.specs.Forgetting.{HearsEach, HearsOne, IsOver, behind_turn, forgotten, gone_behind, gone_by, is_due, late_before, lines_behind, retold, shown_after, shown_of, stopper_in}
use Rattle.terminal_text.specs.Moving.{moved}
use Rattle.terminal_text.specs.Stopping.{stopper_of, watch_of, watched}
use Rattle.term_managed.specs.declared.turn.Deed.{Deed}
use Rattle.terminal_text.specs.declared.stopping.Stopper.{Stopper}
use Rattle.terminal_text.specs.Showing.{Shown, gone, over, shown, turned, turns_among, without_unit}
use Rattle.terminal_text.specs.declared.forgetting.ForgettingBench.{ForgettingBench}
use Rattle.terminal_text.specs.declared.hearing.Hearing.{Hearing}
use Rattle.terminal_text.specs.declared.rows.Rows.{Rows}
use Rattle.terminal_text.specs.declared.stopping.Watch.{Watch}
use Rattle.std.specs.Prelude.{codes, decimal}

-- Pieces behind pieces.

pub pieces_more : (link : ℕ) (xs ys : List (List Bool)) (old mid new : ForgettingBench) (a b : List Shown)
    → HearsEach link xs old a mid → HearsEach link ys mid b new → HearsEach link (xs ++ ys) old (a ++ b) new
pieces_more link [] ys old mid new a b f g =
    subst (λ (ts : List Shown). HearsEach link ys old (ts ++ b) new) (sym f.0)
    (subst (λ (s : ForgettingBench). HearsEach link ys s b new) f.1 g)
pieces_more link (bits ∷ xs) ys old mid new a b f g = (
  f.0,
  f.1,
  f.2 ++ b,
  f.3,
  pieces_more link xs ys f.0 mid new f.2 b f.4 g,
  ap (λ (ts : List Shown). ts ++ b) f.5 ∙ append_assoc f.1 f.2 b,
)

-- one piece is all
one_is_each : (link : ℕ) (bits : List Bool) (old : ForgettingBench) (items : List Shown) (new : ForgettingBench)
    → HearsOne link bits old items new → HearsEach link (bits ∷ []) old items new
one_is_each link bits old items new one = (new, items, [], one, (refl, refl), sym (append-nil items))

-- a turn, and what is behind it
pub record IsBehind (link : ℕ) (old : ForgettingBench) (turn : TurnAndDeeds) (stopper : Stopper) (between : ForgettingBench) : Type 0 where
  pub stopper_is : stopper ≡ stopper_in link old
  pub plan_is : between.plan ≡ old.plan
  pub streams_are : between.streams ≡ old.streams
  pub watches_are : between.watches ≡ watched link (late_before link old) turn.deeds old.watches

driven_by : ManagedState → Forgetting → List Watch → Option (List ℕ) → ForgettingBench
driven_by managed plan watches streams = record { managed = managed; plan = plan; watches = watches; streams = streams }

is_behind : (link : ℕ) (old between : ForgettingBench) (turn : TurnAndDeeds) (unit : Option SignalUnit) (stopper : Stopper)
    → IsBehind link old turn stopper between
    → between ≡ behind_turn link old (record { turn = turn; unit = unit }) between.managed
unfolding driven_by
is_behind link old between turn unit stopper behind =
    ap (λ (p : Forgetting). driven_by between.managed p between.watches between.streams) behind.plan_is
    ∙ ap (λ (w : List Watch). driven_by between.managed old.plan w between.streams) behind.watches_are
    ∙ ap (λ (t : Option (List ℕ)). driven_by between.managed old.plan (watched link (late_before link old) turn.deeds old.watches) t)
    behind.streams_are

-- noted by so many late orders before it, and what level 3 asked behind it
pub behind_noted : (link late : ℕ) (old : ForgettingBench) (managed : ManagedState) (turn : TurnAndDeeds) (deeds : List Deed)
    (stopper : Stopper) (watches : List Watch) → late ≡ late_before link old → deeds ≡ turn.deeds
    → stopper ≡ stopper_of late (watch_of link old.watches) → watches ≡ watched link late deeds old.watches
    → IsBehind link old turn stopper (record { managed = managed; plan = old.plan; watches = watches; streams = old.streams })
behind_noted link late old managed turn deeds stopper watches counted asked stopped noted = record {
  stopper_is = stopped ∙ ap (λ (n : ℕ). stopper_of n (watch_of link old.watches)) counted;
  plan_is = refl;
  streams_are = refl;
  watches_are = noted ∙ ap (λ (n : ℕ). watched link n deeds old.watches) counted
      ∙ ap (λ (ds : List Deed). watched link (late_before link old) ds old.watches) asked;
}

-- shown by its stopper
shown_by : (link : ℕ) (old : ForgettingBench) (stopper : Stopper) (heard : HeardTurn) (was now : Rows) → stopper ≡ stopper_in link old
    → Shows was (turned stopper heard ∷ []) now → Shows was (turned (stopper_in link old) heard ∷ []) now
shown_by link old stopper heard was now is shows = subst (λ (s : Stopper). Shows was (turned s heard ∷ []) now) is shows

turn_is_one : (link : ℕ) (bits : List Bool) (old between new : ForgettingBench) (turn : TurnAndDeeds) (unit : Option SignalUnit)
    (stopper : Stopper) → HearsTurn link bits old.managed turn unit between.managed → IsBehind link old turn stopper between
    → new ≡ forgotten (retold between)
    → HearsOne link bits old (turned (stopper_in link old) (record { turn = turn; unit = unit }) ∷ shown_after turn.turn.number between) new
turn_is_one link bits old between new turn unit stopper hears behind is = record {
  one = Some (record { turn = turn; unit = unit });
  between = between.managed;
  hears = hears;
  items_are = ap (λ (s : ForgettingBench). turned (stopper_in link old) (record { turn = turn; unit = unit }) ∷ shown_after turn.turn.number s) so;
  new_is = is ∙ ap (λ (s : ForgettingBench). forgotten (retold s)) so;
}
  where
    so : between ≡ behind_turn link old (record { turn = turn; unit = unit }) between.managed
    so = is_behind link old between turn unit stopper behind

-- what a checkpoint leaves to show has no turn, and no unit
none_by : (b : Bool) (history : List Entry) → turns_among (gone_by b history) ≡ []
none_by true history = refl
none_by false history = refl

same_by : (b : Bool) (history : List Entry) → map without_unit (gone_by b history) ≡ gone_by b history
same_by true history = refl
same_by false history = refl

none_in : (lines : List ℕ) (items : List Shown) → turns_among items ≡ [] → turns_among (lines_behind lines ++ items) ≡ []
none_in [] items none = none
none_in (c ∷ cs) items none = none

same_in : (lines : List ℕ) (items : List Shown) → map without_unit items ≡ items
    → map without_unit (lines_behind lines ++ items) ≡ lines_behind lines ++ items
same_in [] items same = same
same_in (c ∷ cs) items same = ap (λ (more : List Shown). gone (c ∷ cs) ∷ more) same

none_behind : (turn : ℕ) (s : ForgettingBench) → turns_among (shown_after turn s) ≡ []
none_behind turn s =
    none_in (moved turn s.streams s.managed.bench.set.state) (gone_behind (retold s))
    (none_by (is_due s.plan && s.plan.told) s.managed.bench.set.history)

same_behind : (turn : ℕ) (s : ForgettingBench) → map without_unit (shown_after turn s) ≡ shown_after turn s
same_behind turn s =
    same_in (moved turn s.streams s.managed.bench.set.state) (gone_behind (retold s))
    (same_by (is_due s.plan && s.plan.told) s.managed.bench.set.history)

turns_more : (a b : List Shown) → turns_among (a ++ b) ≡ turns_among a ++ turns_among b
turns_more [] b = refl
turns_more (turned stopper heard ∷ a) b = ap (λ (hs : List HeardTurn). heard ∷ hs) (turns_more a b)
turns_more (gone lines ∷ a) b = turns_more a b

abbrev puts : List HeardTurn → List ℕ
puts turns = map (λ h. h.turn.turn.put) turns

-- Octets.

pub exchanging_none : (link : ℕ) (bench : ForgettingBench) (rows : Rows) (put : List ℕ) → Exchanging link [] bench bench rows rows put put
exchanging_none link bench rows put = record {
  items = [];
  hears = (refl, refl);
  shows = shows_nothing rows;
  put_is = sym (append-nil put);
  links = refl;
}

pub exchanging_more : (link : ℕ) (xs ys : List (List Bool)) (old mid new : ForgettingBench) (a b c : Rows) (p q r : List ℕ)
    → Exchanging link xs old mid a b p q → Exchanging link ys mid new b c q r → Exchanging link (xs ++ ys) old new a c p r
exchanging_more link xs ys old mid new a b c p q r f g = record {
  items = f.items ++ g.items;
  hears = pieces_more link xs ys old mid new f.items g.items f.hears g.hears;
  shows = subst (λ (hs : List Shown). Shows a hs c) (sym (map-append without_unit f.items g.items))
      (shows_more a b c (map without_unit f.items) (map without_unit g.items) f.shows g.shows);
  put_is = g.put_is ∙ ap (λ (xs : List ℕ). xs ++ puts (turns_among g.items)) f.put_is
      ∙ append_assoc p (puts (turns_among f.items)) (puts (turns_among g.items))
      ∙ ap (λ (xs : List ℕ). p ++ xs) (sym (map-append (λ (h : HeardTurn). h.turn.turn.put) (turns_among f.items) (turns_among g.items)))
      ∙ ap (λ (hs : List HeardTurn). p ++ puts hs) (sym (turns_more f.items g.items));
  links = g.links ∙ f.links;
}

pub octet_exchanged : (link octet : ℕ) (old between new : ForgettingBench) (rows mid rows' : Rows) (put put' : List ℕ) (turn : TurnAndDeeds)
    (unit : Option SignalUnit) (stopper : Stopper) → HearsTurn link (bits_of 8 octet) old.managed turn unit between.managed
    → IsBehind link old turn stopper between
    → Shows rows (turned stopper (record { turn = turn; unit = None }) ∷ []) mid → put' ≡ put ++ turn.turn.put ∷ []
    → length between.managed.bench.links ≡ length old.managed.bench.links → IsOver turn.turn.number between new mid rows'
    → Exchanging link (bits_of 8 octet ∷ []) old new rows rows' put put'
octet_exchanged link octet old between new rows mid rows' put put' turn unit stopper hears behind shows is links forgets = record {
  items = turned (stopper_in link old) (record { turn = turn; unit = unit }) ∷ shown_after turn.turn.number between;
  hears = one_is_each link (bits_of 8 octet) old _ new (turn_is_one link (bits_of 8 octet) old between new turn unit stopper hears behind forgets.new_is);
  shows = subst (λ (items : List Shown). Shows rows (turned (stopper_in link old) (record { turn = turn; unit = None }) ∷ items) rows')
      (sym (same_behind turn.turn.number between))
      (shows_more rows mid rows' (turned (stopper_in link old) (record { turn = turn; unit = None }) ∷ []) (shown_after turn.turn.number between)
      (shown_by link old stopper (record { turn = turn; unit = None }) rows mid behind.stopper_is shows) forgets.shows);
  put_is = is ∙ ap (λ (hs : List HeardTurn). put ++ (turn.turn.put ∷ puts hs)) (sym (none_behind turn.turn.number between));
  links = forgets.links ∙ links;
}

-- Bits.

pub hears_none : (link : ℕ) (bench : ForgettingBench) (hearing : Hearing) → Hears link [] bench bench hearing hearing
hears_none link bench hearing = record {
  items = [];
  hears = (refl, refl);
  shows = shows_nothing hearing.rows;
  turns_are = omega arith;
  links = refl;
}

pub hears_more : (link : ℕ) (xs ys : List (List Bool)) (old mid new : ForgettingBench) (a b c : Hearing)
    → Hears link xs old mid a b → Hears link ys mid new b c → Hears link (xs ++ ys) old new a c
hears_more link xs ys old mid new a b c f g = record {
  items = f.items ++ g.items;
  hears = pieces_more link xs ys old mid new f.items g.items f.hears g.hears;
  shows = shows_more a.rows b.rows c.rows f.items g.items f.shows g.shows;
  turns_are = omega (
    arith,
    f.turns_are,
    g.turns_are,
    ap (λ (hs : List HeardTurn). length hs) (turns_more f.items g.items),
    length-append (turns_among f.items) (turns_among g.items),
  );
  links = g.links ∙ f.links;
}

pub bit_waits : (link : ℕ) (bit : Bool) (old new : ForgettingBench) (was now : Hearing) → Waits link (bit ∷ []) old.managed new.managed
    → new.plan ≡ old.plan → new.watches ≡ old.watches → new.streams ≡ old.streams → now.rows ≡ was.rows → now.turns ≡ was.turns
    → length new.managed.bench.links ≡ length old.managed.bench.links → Hears link ((bit ∷ []) ∷ []) old new was now
unfolding driven_by
bit_waits link bit old new was now waits plan watches streams rows turns links = record {
  items = [];
  hears = one_is_each link (bit ∷ []) old [] new (record {
    one = None;
    between = new.managed;
    hears = waits;
    items_are = refl;
    new_is = ap (λ (p : Forgetting). driven_by new.managed p new.watches new.streams) plan
        ∙ ap (λ (w : List Watch). driven_by new.managed old.plan w new.streams) watches
        ∙ ap (λ (t : Option (List ℕ)). driven_by new.managed old.plan old.watches t) streams;
  });
  shows = subst (λ (r : Rows). Shows was.rows [] r) (sym rows) (shows_nothing was.rows);
  turns_are = omega (arith, turns);
  links = links;
}

pub bit_turns : (link : ℕ) (bit : Bool) (old between new : ForgettingBench) (was now : Hearing) (mid : Rows) (turn : TurnAndDeeds)
    (unit : Option SignalUnit) (stopper : Stopper) → HearsTurn link (bit ∷ []) old.managed turn unit between.managed
    → IsBehind link old turn stopper between
    → Shows was.rows (turned stopper (record { turn = turn; unit = unit }) ∷ []) mid → now.turns ≡ was.turns + 1
    → length between.managed.bench.links ≡ length old.managed.bench.links → IsOver turn.turn.number between new mid now.rows
    → Hears link ((bit ∷ []) ∷ []) old new was now
bit_turns link bit old between new was now mid turn unit stopper hears behind shows turns links forgets = record {
  items = turned (stopper_in link old) (record { turn = turn; unit = unit }) ∷ shown_after turn.turn.number between;
  hears = one_is_each link (bit ∷ []) old _ new (turn_is_one link (bit ∷ []) old between new turn unit stopper hears behind forgets.new_is);
  shows = shows_more was.rows mid now.rows (turned (stopper_in link old) (record { turn = turn; unit = unit }) ∷ []) (shown_after turn.turn.number between)
      (shown_by link old stopper (record { turn = turn; unit = unit }) was.rows mid behind.stopper_is shows) forgets.shows;
  turns_are = turns ∙ ap (λ (hs : List HeardTurn). was.turns + suc (length hs)) (sym (none_behind turn.turn.number between));
  links = forgets.links ∙ links;
}

-- the unit of a turn that appended none, and of one that did
pub none_sent : (sent : ℕ) (unit : Option SignalUnit) → sent ≡ length (option_to_list unit) → sent ≡ 0 → unit ≡ None
none_sent sent None is zero_is = refl
none_sent sent (Some unit) is zero_is = absurd (omega (arith, is, zero_is))

-- The end of a line.

-- what is printed at last is what all turns show
pub shown_whole : (link : ℕ) (first last : Rows) (items : List Shown) → first.link ≡ link → first.row ≡ None → first.text.items ≡ []
    → Shows first items last → last.text.items ++ left_of last.link last.row [] ≡ shown link items
shown_whole link first last items at none empty shows =
    ap (λ (xs : List ℕ). xs ++ left_of last.link last.row []) (shows.text_is ∙ ap (λ (xs : List ℕ). xs ++ shows.added) empty)
    ∙ ap (λ n. shows.added ++ left_of n last.row []) shows.link_is
    ∙ sym (shows.goes_on [])
    ∙ ap (λ (hs : List Shown). left_of first.link first.row hs) (append-nil items)
    ∙ ap (λ n. left_of n first.row items) at
    ∙ ap (λ r. left_of link r items) none

pub exchanged : (link : ℕ) (octets : List ℕ) (old new : ForgettingBench) (first last : Rows) (none put text : List ℕ) → first.link ≡ link
    → first.row ≡ None → first.text.items ≡ [] → none ≡ []
    → Exchanging link (map (bits_of 8) octets) old new first last none put
    → text ≡ (last.text.items ++ left_of last.link last.row [])
    ++ (codes "octets " ++ (decimal link ++ (codes " " ++ (hex_text put ++ codes "\n"))))
    → Exchanges link octets old text new
exchanged link octets old new first last none put text at row empty nothing e is = record {
  items = e.items;
  hears = e.hears;
  printed_is = is
      ∙ ap (λ (xs : List ℕ). xs ++ (codes "octets " ++ (decimal link ++ (codes " " ++ (hex_text put ++ codes "\n")))))
      (shown_whole link first last (map without_unit e.items) at row empty e.shows)
      ∙ ap (λ (xs : List ℕ). shown link (map without_unit e.items) ++ (codes "octets " ++ (decimal link ++ (codes " " ++ (hex_text xs ++ codes "\n")))))
      (e.put_is ∙ ap (λ (xs : List ℕ). xs ++ puts (turns_among e.items)) nothing);
}

pub line_heard : (link : ℕ) (bits : List Bool) (old new : ForgettingBench) (first last : Hearing) (turns : ℕ) (text : List ℕ)
    → first.rows.link ≡ link → first.rows.row ≡ None → first.rows.text.items ≡ [] → first.turns ≡ 0
    → Hears link (one_by_one bits) old new first last → turns ≡ last.turns
    → text ≡ (last.rows.text.items ++ left_of last.rows.link last.rows.row []) ++ (codes "turns " ++ (decimal turns ++ codes "\n"))
    → HearsLine link bits old text new
line_heard link bits old new first last turns text at row empty nothing h count is = record {
  items = h.items;
  hears = h.hears;
  printed_is = is
      ∙ ap (λ (xs : List ℕ). xs ++ (codes "turns " ++ (decimal turns ++ codes "\n"))) (shown_whole link first.rows last.rows h.items at row empty h.shows)
      ∙ ap (λ n. shown link h.items ++ (codes "turns " ++ (decimal n ++ codes "\n"))) (omega (arith, count, h.turns_are, nothing));
}

-- Lists so far.

pub map_more : {A B : Type 0} (f : A → B) (xs : List A) (i : ℕ) (d : A) → i < length xs
    → map f (take (i + 1) xs) ≡ map f (take i xs) ++ f (get_or xs i d) ∷ []
map_more f xs i d h = ap (λ ys. map f ys) (take_more xs i d h) ∙ map-append f (take i xs) (get_or xs i d ∷ [])

pub over_more : (n : ℕ) (bits : List Bool) → one_by_one (over (n + 1) bits) ≡ one_by_one (over n bits) ++ one_by_one bits
over_more n bits =
    ap (λ k. one_by_one (over k bits)) (add-one n) ∙ map-append (λ (bit : Bool). bit ∷ []) (over n bits) bits

-- the bits of a unit
pub stuffed_unit : (octets sealed : List ℕ) (empty stuffed whole : List Bool) → sealed ≡ sealed_text octets → empty ≡ []
    → AppendsText (line_bits sealed) empty stuffed → whole ≡ stuffed ++ flag → whole ≡ unit_bits octets
stuffed_unit octets sealed empty stuffed whole is none a behind =
    behind ∙ ap (λ (bits : List Bool). bits ++ flag)
    (a.appended ∙ ap (λ (bits : List Bool). bits ++ a.text) none
    ∙ one_stuffing (line_bits sealed) a.text (text_after 0 (line_bits sealed)) a.stuffed (has_text (line_bits sealed))
    ∙ ap (λ (os : List ℕ). text_after 0 (line_bits os)) is)

-- What a bit brought.

pub ok_so : {E P Q : Type 0} (result : Result (Unit {0}) E) → (P → Q) → OnOk result P → OnOk result Q
ok_so (Ok done) follows holds = follows holds
ok_so (Err fault) follows holds = holds

pub bit_none : (found : Option TurnAndDeeds) (link : ℕ) (bit : Bool) (old new : ManagedState) (tap tap' : LastUnit) → found ≡ None
    → HearsBit (λ (before : LastUnit) (unit : SignalUnit) (after : LastUnit). after.unit ≡ Some unit) found link bit old new tap tap'
    → Waits link (bit ∷ []) old new
bit_none found link bit old new tap tap' is hears =
    (subst (λ (f : Option TurnAndDeeds). HearsBit (λ (before : LastUnit) (unit : SignalUnit) (after : LastUnit). after.unit ≡ Some unit) f link bit old new tap tap') is hears).0

pub record BringsTurn (link : ℕ) (bit : Bool) (old new : ManagedState) (turn : TurnAndDeeds) (tap' : LastUnit) : Type 0 where
  pub unit : Option SignalUnit
  pub hears : HearsTurn link (bit ∷ []) old turn unit new
  pub told : (u : SignalUnit) → unit ≡ Some u → tap'.unit ≡ Some u

told_by : (unit : Option SignalUnit) (tap tap' : LastUnit) → Taps (λ (before : LastUnit) (unit : SignalUnit) (after : LastUnit). after.unit ≡ Some unit) unit tap tap'
    → (u : SignalUnit) → unit ≡ Some u → tap'.unit ≡ Some u
told_by None tap tap' taps u is = absurd cc
told_by (Some unit) tap tap' taps u is = taps ∙ is

pub bit_some : (found : Option TurnAndDeeds) (link : ℕ) (bit : Bool) (old new : ManagedState) (turn : TurnAndDeeds) (tap tap' : LastUnit) → found ≡ Some turn
    → HearsBit (λ (before : LastUnit) (unit : SignalUnit) (after : LastUnit). after.unit ≡ Some unit) found link bit old new tap tap'
    → BringsTurn link bit old new turn tap'
bit_some found link bit old new turn tap tap' is hears =
    let so = subst (λ (f : Option TurnAndDeeds). HearsBit (λ (before : LastUnit) (unit : SignalUnit) (after : LastUnit). after.unit ≡ Some unit) f link bit old new tap tap') is hears in record {
      unit = so.0;
      hears = so.1;
      told = told_by so.0 tap tap' so.2;
    }

-- a turn without a unit, and with one
pub bit_quiet : (link : ℕ) (bit : Bool) (old between new : ForgettingBench) (was now : Hearing) (mid : Rows) (turn : TurnAndDeeds)
    (tap' : LastUnit) (stopper : Stopper) → BringsTurn link bit old.managed between.managed turn tap'
    → IsBehind link old turn stopper between → turn.turn.sent ≡ 0
    → Shows was.rows (turned stopper (record { turn = turn; unit = None }) ∷ []) mid → now.turns ≡ was.turns + 1
    → length between.managed.bench.links ≡ length old.managed.bench.links → IsOver turn.turn.number between new mid now.rows
    → Hears link ((bit ∷ []) ∷ []) old new was now
bit_quiet link bit old between new was now mid turn tap' stopper brings behind none shows turns links forgets =
    bit_turns link bit old between new was now mid turn brings.unit stopper brings.hears behind
    (subst (λ (u : Option SignalUnit). Shows was.rows (turned stopper (record { turn = turn; unit = u }) ∷ []) mid)
    (sym (none_sent turn.turn.sent brings.unit brings.hears.hears.turns.takes.sent_is none)) shows)
    turns links forgets

same_as_told : (unit shown : Option SignalUnit) (sent : ℕ) → sent ≡ length (option_to_list unit) → 0 < sent
    → ((u : SignalUnit) → unit ≡ Some u → shown ≡ Some u) → shown ≡ unit
same_as_told None shown sent is some told = absurd (omega (arith, is, some))
same_as_told (Some unit) shown sent is some told = told unit refl

pub bit_sent : (link : ℕ) (bit : Bool) (old between new : ForgettingBench) (was now : Hearing) (mid : Rows) (turn : TurnAndDeeds)
    (tap' : LastUnit) (unit : Option SignalUnit) (stopper : Stopper) → BringsTurn link bit old.managed between.managed turn tap'
    → IsBehind link old turn stopper between → 0 < turn.turn.sent → unit ≡ tap'.unit → Shows was.rows (turned stopper (record { turn = turn; unit = unit }) ∷ []) mid
    → now.turns ≡ was.turns + 1 → length between.managed.bench.links ≡ length old.managed.bench.links
    → IsOver turn.turn.number between new mid now.rows → Hears link ((bit ∷ []) ∷ []) old new was now
bit_sent link bit old between new was now mid turn tap' unit stopper brings behind some is shows turns links forgets =
    bit_turns link bit old between new was now mid turn brings.unit stopper brings.hears behind
    (subst (λ (u : Option SignalUnit). Shows was.rows (turned stopper (record { turn = turn; unit = u }) ∷ []) mid)
    (same_as_told brings.unit unit turn.turn.sent brings.hears.hears.turns.takes.sent_is some (λ u h. is ∙ brings.told u h)) shows)
    turns links forgets

-- As many octets go out as came.

one_turn : (link octet : ℕ) (old : ForgettingBench) (items : List Shown) (new : ForgettingBench)
    → HearsOne link (bits_of 8 octet) old items new → length (turns_among items) ≡ 1
one_turn link octet old items new one = by one.one one.hears one.items_are
  where
    by : (found : Option HeardTurn) → HearsPiece link (bits_of 8 octet) old.managed found one.between
        → items ≡ shown_of link old found one.between → length (turns_among items) ≡ 1
    by None waits is =
        absurd (omega (arith, waits.waits.few, length-append waits.waits.was.waiting (bits_of 8 octet), length-bits_of 8 octet))
    by (Some heard) hears is =
        ap (λ (xs : List Shown). length (turns_among xs)) is
        ∙ ap (λ (hs : List HeardTurn). suc (length hs)) (none_behind heard.turn.turn.number (behind_turn link old heard one.between))

turn_each : (link : ℕ) (octets : List ℕ) (old new : ForgettingBench) (items : List Shown)
    → HearsEach link (map (bits_of 8) octets) old items new → length (turns_among items) ≡ length octets
turn_each link [] old new items hears = ap (λ (xs : List Shown). length (turns_among xs)) hears.0
turn_each link (octet ∷ octets) old new items hears =
    ap (λ (xs : List Shown). length (turns_among xs)) hears.5
    ∙ ap (λ (hs : List HeardTurn). length hs) (turns_more hears.1 hears.2)
    ∙ length-append (turns_among hears.1) (turns_among hears.2)
    ∙ ap₂ (λ m n. m + n) (one_turn link octet old hears.1 hears.0 hears.3) (turn_each link octets hears.0 new hears.2 hears.4)
    ∙ omega arith

pub as_many : AsManyGoOut
as_many link octets old printed new exchanges =
    length-map (turns_among exchanges.items) (λ (h : HeardTurn). h.turn.turn.put)
    ∙ turn_each link octets old new exchanges.items exchanges.hears
