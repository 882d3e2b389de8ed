-- Rows of units that read the same, while they may go on.
use Rattle.std.proofs.Common.{refl, sym, ap, subst, arith, ◌≡◌, ◌∙◌, ℕ, zero, suc, ◌+◌, ◌==◌, ◌&&◌, Bool, true, false, List, [], ◌∷◌, ◌++◌, length, append_assoc, append-nil, Option, None, Some, if◌then◌else◌}
use Rattle.std.proofs.lemmas.Bool.Decides.{nat_tests}
use Rattle.std.specs.Str.{bytes_eq}
use Rattle.term_managed.specs.Turns.{HeardTurn, TurnAndDeeds}
use Rattle.term_managed.specs.declared.turn.Deed.{Deed}
use Rattle.l2_units.specs.declared.unit.Unit.{Unit as SignalUnit}
use Rattle.text_units.specs.UnitsText.{unit_words}
use Rattle.terminal_text.specs.Forgetting.{lines_behind}
use Rattle.terminal_text.specs.Rows.{AddsUnit, EndsRow, Shows, ShowsLines, ShowsTurn, left_behind, left_of, row_text}
use Rattle.terminal_text.specs.Showing.{Shown, deeds_lines, gone, turned, is_quiet, is_silent, leading, leading_at, over, row_line, shown_behind, stays, turn_lines, unit_line, words_or}
use Rattle.terminal_text.specs.declared.rows.Row.{Row}
use Rattle.terminal_text.specs.declared.rows.Rows.{Rows}
use Rattle.terminal_text.specs.declared.stopping.Stopper.{Stopper}

-- A turn that shows nothing, and one that shows something.

no_lines : (messages : ℕ) (stay : Bool) (xs ys : List ℕ) → ((messages == 0) && stay) ≡ true → over messages xs ++ (if stay then [] else ys) ≡ []
no_lines zero true xs ys h = refl
no_lines zero false xs ys h = absurd (grind (arith, nat_tests, h))
no_lines (suc n) stay xs ys h = absurd (grind (arith, nat_tests, h))

no_deeds : (link turn : ℕ) (deeds : List Deed) → (length deeds == 0) ≡ true → deeds_lines link turn deeds ≡ []
no_deeds link turn [] h = refl
no_deeds link turn (deed ∷ deeds) h = absurd (grind (arith, nat_tests, h))

both_true : (a b : Bool) → a && b ≡ true → (a ≡ true) × (b ≡ true)
both_true true true h = (refl, refl)
both_true true false h = absurd (cc h)
both_true false b h = absurd (cc h)

silent_lines : (link : ℕ) (stopper : Stopper) (turn : TurnAndDeeds) → is_silent turn ≡ true → turn_lines link stopper turn ≡ []
silent_lines link stopper turn h =
    let both = both_true (is_quiet turn.turn) (length turn.deeds == 0) h in
    ap (λ (xs : List ℕ). xs ++ deeds_lines link turn.turn.number turn.deeds) (no_lines turn.turn.messages (stays turn.turn) _ _ both.0)
    ∙ no_deeds link turn.turn.number turn.deeds both.1

behind_turn : ℕ → Bool → Option (List ℕ) → List ℕ → Option SignalUnit → List Shown → List ℕ
behind_turn link silent before lines unit more =
    lines ++ (unit_line link (if silent then before else None) unit more ++ shown_behind link (words_or unit (if silent then before else None)) more)

left_by : ℕ → Bool → Option Row → List ℕ → Option SignalUnit → List Shown → List ℕ
left_by link silent None lines unit more = behind_turn link silent None lines unit more
left_by link silent (Some row) lines unit more =
    row_line link row.words.items (row.times + (if silent then leading_at row.words.items unit (leading row.words.items more) else 0))
    ++ behind_turn link silent (Some row.words.items) lines unit more

by_turn : (link : ℕ) (row : Option Row) (stopper : Stopper) (heard : HeardTurn) (more : List Shown)
    → left_of link row (turned stopper heard ∷ more) ≡ left_by link (is_silent heard.turn) row (turn_lines link stopper heard.turn) heard.unit more
unfolding left_by behind_turn
by_turn link None stopper heard more = refl
by_turn link (Some row) stopper heard more = refl

by_silent : (link : ℕ) (silent : Bool) (row : Option Row) (lines : List ℕ) (unit : Option SignalUnit) (more : List Shown)
    → silent ≡ true → lines ≡ [] → left_by link silent row lines unit more ≡ left_behind link row unit more
unfolding left_by behind_turn
by_silent link true None lines unit more h e = ap (λ (xs : List ℕ). xs ++ (unit_line link None unit more ++ shown_behind link (words_or unit None) more)) e
by_silent link true (Some row) lines unit more h e =
    ap (λ (xs : List ℕ). row_line link row.words.items (row.times + leading_at row.words.items unit (leading row.words.items more))
    ++ (xs ++ (unit_line link (Some row.words.items) unit more ++ shown_behind link (words_or unit (Some row.words.items)) more))) e
by_silent link false row lines unit more h e = absurd cc

by_loud : (link : ℕ) (silent : Bool) (row : Option Row) (lines : List ℕ) (unit : Option SignalUnit) (more : List Shown)
    → silent ≡ false → left_by link silent row lines unit more ≡ row_text link row ++ (lines ++ left_behind link None unit more)
unfolding left_by behind_turn
by_loud link true row lines unit more h = absurd cc
by_loud link false None lines unit more h = refl
by_loud link false (Some row) lines unit more h =
    ap (λ n. row_line link row.words.items n ++ (lines ++ left_behind link None unit more)) (omega arith)

-- a silent turn with its unit, and without one
shows_unit : (old new : Rows) (stopper : Stopper) (turn : TurnAndDeeds) (unit : SignalUnit) → is_silent turn ≡ true → AddsUnit old unit new
    → Shows old (turned stopper (record { turn = turn; unit = Some unit }) ∷ []) new
shows_unit old new stopper turn unit h a = record {
  added = a.added;
  text_is = a.text_is;
  link_is = a.link_is;
  goes_on = λ more.
      by_turn old.link old.row stopper (record { turn = turn; unit = Some unit }) more
      ∙ by_silent old.link (is_silent turn) old.row (turn_lines old.link stopper turn) (Some unit) more h (silent_lines old.link stopper turn h)
      ∙ a.goes_on more;
}

left_alone : (link : ℕ) (row : Option Row) (more : List Shown) → left_behind link row None more ≡ left_of link row more
left_alone link None more = refl
left_alone link (Some row) more = refl

shows_none : (old : Rows) (stopper : Stopper) (turn : TurnAndDeeds) → is_silent turn ≡ true → Shows old (turned stopper (record { turn = turn; unit = None }) ∷ []) old
shows_none old stopper turn h = record {
  added = [];
  text_is = sym (append-nil old.text.items);
  link_is = refl;
  goes_on = λ more.
      by_turn old.link old.row stopper (record { turn = turn; unit = None }) more
      ∙ by_silent old.link (is_silent turn) old.row (turn_lines old.link stopper turn) None more h (silent_lines old.link stopper turn h)
      ∙ left_alone old.link old.row more;
}

shows_loud_unit : (old mid new : Rows) (stopper : Stopper) (turn : TurnAndDeeds) (unit : SignalUnit) → is_silent turn ≡ false → ShowsLines old stopper turn mid
    → AddsUnit mid unit new → Shows old (turned stopper (record { turn = turn; unit = Some unit }) ∷ []) new
shows_loud_unit old mid new stopper turn unit h lines a = record {
  added = (row_text old.link old.row ++ turn_lines old.link stopper turn) ++ a.added;
  text_is = a.text_is ∙ ap (λ (xs : List ℕ). xs ++ a.added) lines.text_is
      ∙ append_assoc old.text.items (row_text old.link old.row ++ turn_lines old.link stopper turn) a.added;
  link_is = a.link_is ∙ lines.link_is;
  goes_on = λ more.
      by_turn old.link old.row stopper (record { turn = turn; unit = Some unit }) more
      ∙ by_loud old.link (is_silent turn) old.row (turn_lines old.link stopper turn) (Some unit) more h
      ∙ sym (append_assoc (row_text old.link old.row) (turn_lines old.link stopper turn) (left_behind old.link None (Some unit) more))
      ∙ ap (λ (xs : List ℕ). (row_text old.link old.row ++ turn_lines old.link stopper turn) ++ xs)
      (ap (λ (row : Option Row). left_behind old.link row (Some unit) more) (sym lines.row_is)
      ∙ ap (λ n. left_behind n mid.row (Some unit) more) (sym lines.link_is) ∙ a.goes_on more
      ∙ ap (λ n. a.added ++ left_of n new.row more) lines.link_is)
      ∙ sym (append_assoc (row_text old.link old.row ++ turn_lines old.link stopper turn) a.added (left_of old.link new.row more));
}

shows_loud : (old new : Rows) (stopper : Stopper) (turn : TurnAndDeeds) → is_silent turn ≡ false → ShowsLines old stopper turn new
    → Shows old (turned stopper (record { turn = turn; unit = None }) ∷ []) new
shows_loud old new stopper turn h lines = record {
  added = row_text old.link old.row ++ turn_lines old.link stopper turn;
  text_is = lines.text_is;
  link_is = lines.link_is;
  goes_on = λ more.
      by_turn old.link old.row stopper (record { turn = turn; unit = None }) more
      ∙ by_loud old.link (is_silent turn) old.row (turn_lines old.link stopper turn) None more h
      ∙ sym (append_assoc (row_text old.link old.row) (turn_lines old.link stopper turn) (left_behind old.link None None more))
      ∙ ap (λ (row : Option Row). (row_text old.link old.row ++ turn_lines old.link stopper turn) ++ left_of old.link row more) (sym lines.row_is);
}

-- a turn, silent or not
with_unit : (silent : Bool) (old mid new : Rows) (stopper : Stopper) (turn : TurnAndDeeds) (unit : SignalUnit) → is_silent turn ≡ silent → ShowsTurn old stopper turn mid
    → AddsUnit mid unit new → Shows old (turned stopper (record { turn = turn; unit = Some unit }) ∷ []) new
with_unit true old mid new stopper turn unit h shows adds =
    shows_unit old new stopper turn unit h (subst (λ (r : Rows). AddsUnit r unit new) (shows.silent h) adds)
with_unit false old mid new stopper turn unit h shows adds = shows_loud_unit old mid new stopper turn unit h (shows.loud h) adds

pub shows_with_unit : (old mid new : Rows) (stopper : Stopper) (turn : TurnAndDeeds) (unit : SignalUnit) → ShowsTurn old stopper turn mid → AddsUnit mid unit new
    → Shows old (turned stopper (record { turn = turn; unit = Some unit }) ∷ []) new
shows_with_unit old mid new stopper turn unit shows adds = with_unit (is_silent turn) old mid new stopper turn unit refl shows adds

alone : (silent : Bool) (old new : Rows) (stopper : Stopper) (turn : TurnAndDeeds) → is_silent turn ≡ silent → ShowsTurn old stopper turn new
    → Shows old (turned stopper (record { turn = turn; unit = None }) ∷ []) new
alone true old new stopper turn h shows =
    subst (λ (r : Rows). Shows old (turned stopper (record { turn = turn; unit = None }) ∷ []) r) (sym (shows.silent h)) (shows_none old stopper turn h)
alone false old new stopper turn h shows = shows_loud old new stopper turn h (shows.loud h)

pub shows_alone : (old new : Rows) (stopper : Stopper) (turn : TurnAndDeeds) → ShowsTurn old stopper turn new → Shows old (turned stopper (record { turn = turn; unit = None }) ∷ []) new
shows_alone old new stopper turn shows = alone (is_silent turn) old new stopper turn refl shows

pub silent_turn : (rows : Rows) (stopper : Stopper) (turn : TurnAndDeeds) → is_silent turn ≡ true → ShowsTurn rows stopper turn rows
silent_turn rows stopper turn h = record { silent = λ s. refl; loud = λ l. let no : true ≡ false = sym h ∙ l in absurd cc }

pub loud_turn : (old new : Rows) (stopper : Stopper) (turn : TurnAndDeeds) → is_silent turn ≡ false → ShowsLines old stopper turn new → ShowsTurn old stopper turn new
loud_turn old new stopper turn h lines = record { silent = λ s. let no : true ≡ false = sym s ∙ h in absurd cc; loud = λ l. lines }

-- A unit.

module _ (link : ℕ) (unit : SignalUnit) (more : List Shown) where
  -- in the row
  same_row : (same : Bool) (words : List ℕ) (times : ℕ) → same ≡ true → words ≡ unit_words unit
      → row_line link words (times + (if same then 1 + leading words more else 0))
      ++ ((if same then [] else row_line link (unit_words unit) (1 + leading (unit_words unit) more)) ++ shown_behind link (Some (unit_words unit)) more)
      ≡ row_line link words ((times + 1) + leading words more) ++ shown_behind link (Some words) more
  same_row true words times h e =
      ap (λ n. row_line link words n ++ shown_behind link (Some (unit_words unit)) more) (omega arith)
      ∙ ap (λ (w : List ℕ). row_line link words ((times + 1) + leading words more) ++ shown_behind link (Some w) more) (sym e)
  same_row false words times h e = absurd cc

  -- in the next one
  next_row : (same : Bool) (words : List ℕ) (times : ℕ) → same ≡ false
      → row_line link words (times + (if same then 1 + leading words more else 0))
      ++ ((if same then [] else row_line link (unit_words unit) (1 + leading (unit_words unit) more)) ++ shown_behind link (Some (unit_words unit)) more)
      ≡ row_line link words times ++ (row_line link (unit_words unit) (1 + leading (unit_words unit) more) ++ shown_behind link (Some (unit_words unit)) more)
  next_row true words times h = absurd cc
  next_row false words times h =
      ap (λ n. row_line link words n ++ (row_line link (unit_words unit) (1 + leading (unit_words unit) more) ++ shown_behind link (Some (unit_words unit)) more)) (omega arith)

pub unit_in_row : (old new : Rows) (unit : SignalUnit) (row next : Row) → old.row ≡ Some row → new.row ≡ Some next
    → bytes_eq row.words.items (unit_words unit) ≡ true → row.words.items ≡ unit_words unit
    → next.words.items ≡ row.words.items → next.times ≡ row.times + 1 → new.text.items ≡ old.text.items → new.link ≡ old.link
    → AddsUnit old unit new
unit_in_row old new unit row next was now same is words times text link = record {
  added = [];
  text_is = text ∙ sym (append-nil old.text.items);
  link_is = link;
  goes_on = λ more.
      ap (λ (r : Option Row). left_behind old.link r (Some unit) more) was
      ∙ same_row old.link unit more (bytes_eq row.words.items (unit_words unit)) row.words.items row.times same is
      ∙ sym (ap (λ (r : Option Row). left_of old.link r more) now
      ∙ ap (λ (w : List ℕ). row_line old.link w (next.times + leading w more) ++ shown_behind old.link (Some w) more) words
      ∙ ap (λ n. row_line old.link row.words.items (n + leading row.words.items more) ++ shown_behind old.link (Some row.words.items) more) times);
}

-- a row that has begun
begun : (link : ℕ) (unit : SignalUnit) (new : Option Row) (next : Row) (more : List Shown) → new ≡ Some next
    → next.words.items ≡ unit_words unit → next.times ≡ 1
    → left_of link new more ≡ row_line link (unit_words unit) (1 + leading (unit_words unit) more) ++ shown_behind link (Some (unit_words unit)) more
begun link unit new next more now words times =
    ap (λ (r : Option Row). left_of link r more) now
    ∙ ap (λ (w : List ℕ). row_line link w (next.times + leading w more) ++ shown_behind link (Some w) more) words
    ∙ ap (λ n. row_line link (unit_words unit) (n + leading (unit_words unit) more) ++ shown_behind link (Some (unit_words unit)) more) times

pub unit_in_next : (old mid new : Rows) (unit : SignalUnit) (row next : Row) → old.row ≡ Some row → EndsRow old mid → new.row ≡ Some next
    → bytes_eq row.words.items (unit_words unit) ≡ false → next.words.items ≡ unit_words unit → next.times ≡ 1
    → new.text.items ≡ mid.text.items → new.link ≡ mid.link → AddsUnit old unit new
unit_in_next old mid new unit row next was ends now other words times text link = record {
  added = row_text old.link old.row;
  text_is = text ∙ ends.text_is;
  link_is = link ∙ ends.link_is;
  goes_on = λ more.
      ap (λ (r : Option Row). left_behind old.link r (Some unit) more) was
      ∙ next_row old.link unit more (bytes_eq row.words.items (unit_words unit)) row.words.items row.times other
      ∙ ap (λ (r : Option Row). row_text old.link r ++ (row_line old.link (unit_words unit) (1 + leading (unit_words unit) more) ++ shown_behind old.link (Some (unit_words unit)) more)) (sym was)
      ∙ ap (λ (xs : List ℕ). row_text old.link old.row ++ xs) (sym (begun old.link unit new.row next more now words times));
}

pub unit_in_first : (old mid new : Rows) (unit : SignalUnit) (next : Row) → old.row ≡ None → EndsRow old mid → new.row ≡ Some next
    → next.words.items ≡ unit_words unit → next.times ≡ 1 → new.text.items ≡ mid.text.items → new.link ≡ mid.link → AddsUnit old unit new
unit_in_first old mid new unit next was ends now words times text link = record {
  added = [];
  text_is = text ∙ ends.text_is ∙ ap (λ (r : Option Row). old.text.items ++ row_text old.link r) was;
  link_is = link ∙ ends.link_is;
  goes_on = λ more.
      ap (λ (r : Option Row). left_behind old.link r (Some unit) more) was
      ∙ sym (begun old.link unit new.row next more now words times);
}

-- nothing more is shown
pub left_at_end : (link : ℕ) (row : Option Row) → left_of link row [] ≡ row_text link row
left_at_end link None = refl
left_at_end link (Some row) =
    append-nil (row_line link row.words.items (row.times + 0)) ∙ ap (λ n. row_line link row.words.items n) (omega arith)

-- Turns, one after another.

pub shows_nothing : (rows : Rows) → Shows rows [] rows
shows_nothing rows = record { added = []; text_is = sym (append-nil rows.text.items); link_is = refl; goes_on = λ more. refl }

pub shows_more : (a b c : Rows) (xs ys : List Shown) → Shows a xs b → Shows b ys c → Shows a (xs ++ ys) c
shows_more a b c xs ys f g = record {
  added = f.added ++ g.added;
  text_is = g.text_is ∙ ap (λ (t : List ℕ). t ++ g.added) f.text_is ∙ append_assoc a.text.items f.added g.added;
  link_is = g.link_is ∙ f.link_is;
  goes_on = λ more.
      ap (λ (all : List Shown). left_of a.link a.row all) (append_assoc xs ys more)
      ∙ f.goes_on (ys ++ more)
      ∙ ap (λ (t : List ℕ). f.added ++ t)
      (ap (λ n. left_of n b.row (ys ++ more)) (sym f.link_is) ∙ g.goes_on more ∙ ap (λ n. g.added ++ left_of n c.row more) f.link_is)
      ∙ sym (append_assoc f.added g.added (left_of a.link c.row more));
}

-- lines of a checkpoint
gone_left : (link : ℕ) (row : Option Row) (lines : List ℕ) (more : List Shown)
    → left_of link row (gone lines ∷ more) ≡ row_text link row ++ (lines ++ shown_behind link None more)
gone_left link None lines more = refl
gone_left link (Some row) lines more =
    ap (λ n. row_line link row.words.items n ++ (lines ++ shown_behind link None more)) (omega arith)

pub gone_shown : (old mid new : Rows) (lines told : List ℕ) → EndsRow old mid → lines ≡ told → new.text.items ≡ mid.text.items ++ lines
    → new.link ≡ mid.link → new.row ≡ mid.row → Shows old (gone told ∷ []) new
gone_shown old mid new lines told ends is text link row = record {
  added = row_text old.link old.row ++ told;
  text_is = text ∙ ap (λ (xs : List ℕ). mid.text.items ++ xs) is ∙ ap (λ (xs : List ℕ). xs ++ told) ends.text_is
      ∙ append_assoc old.text.items (row_text old.link old.row) told;
  link_is = link ∙ ends.link_is;
  goes_on = λ more.
      gone_left old.link old.row told more
      ∙ sym (append_assoc (row_text old.link old.row) told (shown_behind old.link None more))
      ∙ ap (λ (r : Option Row). (row_text old.link old.row ++ told) ++ left_of old.link r more) (sym (row ∙ ends.row_is));
}

-- of where streams run
pub lines_shown : (old mid new : Rows) (lines : List ℕ) → EndsRow old mid → (lines ≡ [] → ⊥) → new.text.items ≡ mid.text.items ++ lines
    → new.link ≡ mid.link → new.row ≡ mid.row → Shows old (lines_behind lines) new
lines_shown old mid new [] ends some text link row = absurd (some refl)
lines_shown old mid new (c ∷ cs) ends some text link row = gone_shown old mid new (c ∷ cs) (c ∷ cs) ends refl text link row

pub no_lines_shown : (rows : Rows) (lines : List ℕ) → lines ≡ [] → Shows rows (lines_behind lines) rows
no_lines_shown rows [] none = shows_nothing rows
no_lines_shown rows (c ∷ cs) none = absurd (cc none)
