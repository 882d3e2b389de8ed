-- WHERE UNITS END, over a step: how long a line is (`line_steps`), how many bits a terminal has left (`bits_step`), and what a place
-- says of both (`placed_on`).
use Rattle.std.proofs.Common.{refl, arith, ap, sym, subst, ◌≡◌, ◌∙◌, ◌≤◌, ◌-◌, ◌==◌, ◌+◌, ◌*◌, nat_le, ℕ, zero, suc, Bool, true, false, List, [], ◌∷◌, ◌++◌, length, map, drop, Some, slice_get, slice_set, if◌then◌else◌}
use Rattle.std.proofs.lemmas.Bool.Decides.{nat_tests}
use Rattle.std.proofs.lemmas.List.{length-append, length-drop, length-map, length-set}
use Rattle.l2_bits.specs.LineBits.{line_bits}
use Rattle.l2_bits.proofs.OctetLemmas.{length-line_bits}
use Rattle.l2_units.specs.declared.unit.Unit.{Unit as SignalUnit}
use Rattle.set_model.proofs.Lists.{each_set}
use Rattle.term_bench.specs.Ends.{AtLink, BenchState, told_at}
use Rattle.term_model.specs.LineLaws.{CarriesUnits}
use Rattle.term_model.specs.Runs.{Doing, octets_out, units_of}
use Rattle.term_model.specs.declared.command.Command.{Command}
use Rattle.term_model.proofs.OnLine.{carries}
use Rattle.pair_steps.specs.declared.step.End.{End}
use Rattle.pair_steps.specs.declared.step.End.TheVariants.{A, B}
use Rattle.pair_octets.specs.Passing.{doing_in, other, turns_if, turns_in}
use Rattle.pair_octets.specs.Wires.{Wires, Sides, CommandsIf, Happens, TakesTurn, is_refused, seen_from}
use Rattle.pair_octets.specs.declared.step.WireStep.{WireStep}
use Rattle.pair_octets.specs.declared.step.WireStep.TheVariants.{Turn, Command as CommandStep, Ask, Damage}
use Rattle.pair_octets.proofs.OneEnd.{IsEnd, did_by, ended_each}
use Rattle.pair_wires.specs.Noise.{Place, coming_in, come_by, ends_of, place_by}
use Rattle.pair_wires.specs.Ways.{Carried, Way, carried_in, joined_by, left_by, sent_in, settled_if}
use Rattle.pair_wires.proofs.Ways.{carried_on, units_sent}

-- TURNS of a link in a step
one_if : (doing : Doing) (link l : ℕ) → link ≡ l → length (turns_if (link == l) doing) ≡ 1
one_if doing link l same =
    let is : (link == l) ≡ true = grind (arith, nat_tests, same) in ap (λ (c : Bool). length (turns_if c doing)) is

none_if : (doing : Doing) (l m : ℕ) → (l == m) ≡ false → length (turns_if (m == l) doing) ≡ 0
none_if doing l m apart =
    let is : (m == l) ≡ false = grind (arith, nat_tests, apart) in ap (λ (c : Bool). length (turns_if c doing)) is

-- HOW LONG A LINE IS: each turn of its end takes an octet, each of the other puts one.
abbrev pub LineWas : List (List ℕ) → ℕ → ℕ → ℕ → List ℕ → Type 0
LineWas lines takes puts link now = (line : List ℕ) × (slice_get lines link ≡ Some line) × (length now + takes ≡ length line + puts)

same_line : (lines lines' : List (List ℕ)) (link : ℕ) (now : List ℕ) → lines' ≡ lines → slice_get lines' link ≡ Some now → LineWas lines 0 0 link now
same_line lines lines' link now same there = (now, ap (λ (ls : List (List ℕ)). slice_get ls link) (sym same) ∙ there, refl)

near_line : (link l : ℕ) (old new : Sides) (takes : TakesTurn l old new) (now : List ℕ) → slice_get new.to_near link ≡ Some now
    → LineWas old.to_near (length (turns_if (link == l) (doing_in l old new takes))) 0 link now
near_line link l old new takes now there =
    let doing = doing_in l old new takes in
    each_set (λ m x. LineWas old.to_near (length (turns_if (m == l) doing)) 0 m x) old.to_near l takes.rest
    (takes.octet ∷ takes.rest, takes.comes, omega (arith, one_if doing l l refl))
    (λ m y apart is. (y, is, omega (arith, none_if doing l m apart)))
    link now (subst (λ (ls : List (List ℕ)). slice_get ls link ≡ Some now) takes.to_near_is there)

far_line : (link l : ℕ) (old new : Sides) (takes : TakesTurn l old new) (now : List ℕ) → slice_get new.to_far link ≡ Some now
    → LineWas old.to_far 0 (length (turns_if (link == l) (doing_in l old new takes))) link now
far_line link l old new takes now there =
    let doing = doing_in l old new takes in
    each_set (λ m x. LineWas old.to_far 0 (length (turns_if (m == l) doing)) m x) old.to_far l (takes.on ++ takes.turn.put ∷ [])
    (takes.on, takes.goes, omega (arith, one_if doing l l refl, length-append takes.on (takes.turn.put ∷ [])))
    (λ m y apart is. (y, is, omega (arith, none_if doing l m apart)))
    link now (subst (λ (ls : List (List ℕ)). slice_get ls link ≡ Some now) takes.to_far_is there)

-- damage leaves it as long
damaged_line : (link l place octet : ℕ) (lines lines' : List (List ℕ)) (line now : List ℕ) → slice_get lines l ≡ Some line
    → lines' ≡ slice_set lines l (slice_set line place octet) → slice_get lines' link ≡ Some now → LineWas lines 0 0 link now
damaged_line link l place octet lines lines' line now is same there =
    each_set (λ m x. LineWas lines 0 0 m x) lines l (slice_set line place octet)
    (line, is, ap (λ (k : ℕ). k + 0) (length-set line place octet)) (λ m y apart at. (y, at, refl))
    link now (subst (λ (ls : List (List ℕ)). slice_get ls link ≡ Some now) same there)

pub line_steps : (end : End) (link : ℕ) (step : WireStep) (old new : Wires) (happens : Happens step old new) (now : List ℕ)
    → slice_get (seen_from end new).to_near link ≡ Some now
    → LineWas (seen_from end old).to_near (length (turns_in end link step old new happens)) (length (turns_in (other end) link step old new happens)) link now
line_steps A link (Turn A l) old new takes now there = near_line link l (seen_from A old) (seen_from A new) takes now there
line_steps B link (Turn B l) old new takes now there = near_line link l (seen_from B old) (seen_from B new) takes now there
line_steps A link (Turn B l) old new takes now there = far_line link l (seen_from B old) (seen_from B new) takes now there
line_steps B link (Turn A l) old new takes now there = far_line link l (seen_from A old) (seen_from A new) takes now there
line_steps A link (CommandStep A l command) old new takes now there = same_line old.to_a new.to_a link now takes.only.to_near_is there
line_steps B link (CommandStep B l command) old new takes now there = same_line old.to_b new.to_b link now takes.only.to_near_is there
line_steps A link (CommandStep B l command) old new takes now there = same_line old.to_a new.to_a link now takes.only.to_far_is there
line_steps B link (CommandStep A l command) old new takes now there = same_line old.to_b new.to_b link now takes.only.to_far_is there
line_steps A link (Ask A who event) old new asked now there = same_line old.to_a new.to_a link now asked.only.to_near_is there
line_steps B link (Ask B who event) old new asked now there = same_line old.to_b new.to_b link now asked.only.to_near_is there
line_steps A link (Ask B who event) old new asked now there = same_line old.to_a new.to_a link now asked.only.to_far_is there
line_steps B link (Ask A who event) old new asked now there = same_line old.to_b new.to_b link now asked.only.to_far_is there
line_steps A link (Damage A l place octet) old new damaged now there =
    damaged_line link l place octet old.to_a new.to_a damaged.line now damaged.is_on damaged.to_near_is there
line_steps B link (Damage B l place octet) old new damaged now there =
    damaged_line link l place octet old.to_b new.to_b damaged.line now damaged.is_on damaged.to_near_is there
line_steps A link (Damage B l place octet) old new damaged now there = same_line old.to_a new.to_a link now damaged.to_far_is there
line_steps B link (Damage A l place octet) old new damaged now there = same_line old.to_b new.to_b link now damaged.to_far_is there

-- there are as many lines
pub many_lines : (end : End) (step : WireStep) (old new : Wires) → Happens step old new → length (seen_from end new).to_near ≡ length (seen_from end old).to_near
many_lines A (Turn A l) old new takes = ap (λ (ls : List (List ℕ)). length ls) takes.to_near_is ∙ length-set old.to_a l takes.rest
many_lines B (Turn B l) old new takes = ap (λ (ls : List (List ℕ)). length ls) takes.to_near_is ∙ length-set old.to_b l takes.rest
many_lines A (Turn B l) old new takes = ap (λ (ls : List (List ℕ)). length ls) takes.to_far_is ∙ length-set old.to_a l (takes.on ++ takes.turn.put ∷ [])
many_lines B (Turn A l) old new takes = ap (λ (ls : List (List ℕ)). length ls) takes.to_far_is ∙ length-set old.to_b l (takes.on ++ takes.turn.put ∷ [])
many_lines A (CommandStep A l command) old new takes = ap (λ (ls : List (List ℕ)). length ls) takes.only.to_near_is
many_lines B (CommandStep B l command) old new takes = ap (λ (ls : List (List ℕ)). length ls) takes.only.to_near_is
many_lines A (CommandStep B l command) old new takes = ap (λ (ls : List (List ℕ)). length ls) takes.only.to_far_is
many_lines B (CommandStep A l command) old new takes = ap (λ (ls : List (List ℕ)). length ls) takes.only.to_far_is
many_lines A (Ask A who event) old new asked = ap (λ (ls : List (List ℕ)). length ls) asked.only.to_near_is
many_lines B (Ask B who event) old new asked = ap (λ (ls : List (List ℕ)). length ls) asked.only.to_near_is
many_lines A (Ask B who event) old new asked = ap (λ (ls : List (List ℕ)). length ls) asked.only.to_far_is
many_lines B (Ask A who event) old new asked = ap (λ (ls : List (List ℕ)). length ls) asked.only.to_far_is
many_lines A (Damage A l place octet) old new damaged =
    ap (λ (ls : List (List ℕ)). length ls) damaged.to_near_is ∙ length-set old.to_a l (slice_set damaged.line place octet)
many_lines B (Damage B l place octet) old new damaged =
    ap (λ (ls : List (List ℕ)). length ls) damaged.to_near_is ∙ length-set old.to_b l (slice_set damaged.line place octet)
many_lines A (Damage B l place octet) old new damaged = ap (λ (ls : List (List ℕ)). length ls) damaged.to_far_is
many_lines B (Damage A l place octet) old new damaged = ap (λ (ls : List (List ℕ)). length ls) damaged.to_far_is

-- HOW MANY BITS A TERMINAL HAS LEFT: a turn puts eight of them, and may append a unit.
abbrev pub BitsWere : List AtLink → ℕ → ℕ → AtLink → Type 0
BitsWere links puts link now = (was : AtLink) × (slice_get links link ≡ Some was) × (length was.terminal.bits ≤ 8 * puts + length now.terminal.bits)

bits_same : (links links' : List AtLink) (link : ℕ) (now : AtLink) → links' ≡ links → slice_get links' link ≡ Some now → BitsWere links 0 link now
bits_same links links' link now same there = (now, ap (λ (ls : List AtLink). slice_get ls link) (sym same) ∙ there, omega arith)

bench_bits : (old new : BenchState) (link : ℕ) (now : AtLink) → new ≡ old → slice_get new.links link ≡ Some now → BitsWere old.links 0 link now
bench_bits old new link now same there = bits_same old.links new.links link now (ap (λ (b : BenchState). b.links) same) there

command_bits : (refused : Bool) (link l : ℕ) (command : Command) (old new : BenchState) (now : AtLink) → CommandsIf refused l command old new
    → slice_get new.links link ≡ Some now → BitsWere old.links 0 link now
command_bits true link l command old new now same there = bench_bits old new link now same there
command_bits false link l command old new now told there =
    each_set (λ m x. BitsWere old.links 0 m x) old.links l (told_at command told.was) (told.was, told.is_at, omega arith) (λ m y apart is. (y, is, omega arith))
    link now (subst (λ (ls : List AtLink). slice_get ls link ≡ Some now) told.links_are there)

turn_bits : (link l : ℕ) (old new : Sides) (near : ℕ → List Doing) (takes : TakesTurn l old new) → IsEnd near old.near → (now : AtLink)
    → slice_get new.near.links link ≡ Some now → BitsWere old.near.links (length (turns_if (link == l) (doing_in l old new takes))) link now
turn_bits link l old new near takes is now there =
    ended_each (λ m y. BitsWere old.near.links (length (turns_if (m == l) doing)) m y) (λ m y b. b) 0 old.near.set.state new.near.set.state
    (slice_set old.near.links l takes.turns.now)
    (each_set (λ m y. BitsWere old.near.links (length (turns_if (m == l) doing)) m y) old.near.links l takes.turns.now (
      takes.turns.was,
      takes.turns.is_at,
      omega (
        arith,
        one_if doing l l refl,
        ap length carried.same,
        length-append takes.turns.was.terminal.bits carried.line,
        length-append (line_bits (octets_out (doing ∷ []))) takes.turns.now.terminal.bits,
        length-line_bits (octets_out (doing ∷ [])),
      ),
    )
    (λ m y apart at. (y, at, omega (arith, none_if doing l m apart))))
    link now (subst (λ (ls : List AtLink). slice_get ls link ≡ Some now) takes.turns.links_are there)
  where
    doing : Doing
    doing = doing_in l old new takes

    carried : CarriesUnits (units_of (doing ∷ [])) (octets_out (doing ∷ [])) takes.turns.was.terminal.bits takes.turns.now.terminal.bits
    carried =
        carries (doing ∷ []) (line_bits takes.turns.was.heard) takes.turns.was.terminal takes.turns.now.terminal
        (is.links l takes.turns.was takes.turns.is_at).sound (
          takes.turns.now.terminal,
          did_by takes.octet _ old.near.set.state new.near.set.state takes.turns.was takes.turns.now takes.turn.put takes.turns.takes.entries takes.unit takes.turns.takes.by_octet,
          refl,
        )

-- of an end
pub bits_step : (end : End) (link : ℕ) (step : WireStep) (old new : Wires) (happens : Happens step old new) (near : ℕ → List Doing)
    → IsEnd near (seen_from end old).near → (now : AtLink) → slice_get (seen_from end new).near.links link ≡ Some now
    → BitsWere (seen_from end old).near.links (length (turns_in end link step old new happens)) link now
bits_step A link (Turn A l) old new takes near is now there = turn_bits link l (seen_from A old) (seen_from A new) near takes is now there
bits_step B link (Turn B l) old new takes near is now there = turn_bits link l (seen_from B old) (seen_from B new) near takes is now there
bits_step A link (Turn B l) old new takes near is now there = bench_bits old.a new.a link now takes.far_is there
bits_step B link (Turn A l) old new takes near is now there = bench_bits old.b new.b link now takes.far_is there
bits_step A link (CommandStep A l command) old new takes near is now there = command_bits (is_refused l command old.a) link l command old.a new.a now takes.commands there
bits_step B link (CommandStep B l command) old new takes near is now there = command_bits (is_refused l command old.b) link l command old.b new.b now takes.commands there
bits_step A link (CommandStep B l command) old new takes near is now there = bench_bits old.a new.a link now takes.only.far_is there
bits_step B link (CommandStep A l command) old new takes near is now there = bench_bits old.b new.b link now takes.only.far_is there
bits_step A link (Ask A who event) old new asked near is now there = bits_same old.a.links new.a.links link now asked.links_are there
bits_step B link (Ask B who event) old new asked near is now there = bits_same old.b.links new.b.links link now asked.links_are there
bits_step A link (Ask B who event) old new asked near is now there = bench_bits old.a new.a link now asked.only.far_is there
bits_step B link (Ask A who event) old new asked near is now there = bench_bits old.b new.b link now asked.only.far_is there
bits_step A link (Damage A l place octet) old new damaged near is now there = bench_bits old.a new.a link now damaged.near_is there
bits_step B link (Damage B l place octet) old new damaged near is now there = bench_bits old.b new.b link now damaged.near_is there
bits_step A link (Damage B l place octet) old new damaged near is now there = bench_bits old.a new.a link now damaged.far_is there
bits_step B link (Damage A l place octet) old new damaged near is now there = bench_bits old.b new.b link now damaged.far_is there

-- ENDS OF UNITS within so many bits: all of them, or so many foremost ones
abbrev pub AllWithin : ℕ → List ℕ → Type 0
AllWithin bits [] = Unit {0}
AllWithin bits (last ∷ ends) = (last ≤ bits) × AllWithin bits ends

abbrev pub FirstWithin : ℕ → ℕ → List ℕ → Type 0
FirstWithin zero bits ends = Unit {0}
FirstWithin (suc n) bits [] = ⊥
FirstWithin (suc n) bits (last ∷ ends) = (last ≤ bits) × FirstWithin n bits ends

within_more : (bits more : ℕ) (ends : List ℕ) → bits ≤ more → AllWithin bits ends → AllWithin more ends
within_more bits more [] le all = tt
within_more bits more (last ∷ ends) le all = let here = all.0 in (omega (arith, here, le), within_more bits more ends le all.1)

within_drop : (n bits : ℕ) (ends : List ℕ) → AllWithin bits ends → AllWithin bits (drop n ends)
within_drop zero bits ends all = all
within_drop (suc n) bits [] all = tt
within_drop (suc n) bits (last ∷ ends) all = within_drop n bits ends all.1

within_both : (bits : ℕ) (xs ys : List ℕ) → AllWithin bits xs → AllWithin bits ys → AllWithin bits (xs ++ ys)
within_both bits [] ys x y = y
within_both bits (last ∷ xs) ys x y = (x.0, within_both bits xs ys x.1 y)

sent_within : (bits : ℕ) (units : List SignalUnit) → AllWithin bits (map (λ (unit : SignalUnit). bits) units)
sent_within bits [] = tt
sent_within bits (unit ∷ units) = (omega arith, sent_within bits units)

pub first_of : (n bits : ℕ) (ends : List ℕ) → n ≤ length ends → AllWithin bits ends → FirstWithin n bits ends
first_of zero bits ends few all = tt
first_of (suc n) bits [] few all = absurd (omega (arith, few))
first_of (suc n) bits (last ∷ ends) few all = (all.0, first_of n bits ends (omega (arith, few)) all.1)

pub first_weaker : (n bits more : ℕ) (ends : List ℕ) → bits ≤ more → FirstWithin n bits ends → FirstWithin n more ends
first_weaker zero bits more ends le first = tt
first_weaker (suc n) bits more [] le first = absurd first
first_weaker (suc n) bits more (last ∷ ends) le first = let here = first.0 in (omega (arith, here, le), first_weaker n bits more ends le first.1)

first_append : (n bits : ℕ) (ends more : List ℕ) → FirstWithin n bits ends → FirstWithin n bits (ends ++ more)
first_append zero bits ends more first = tt
first_append (suc n) bits [] more first = absurd first
first_append (suc n) bits (last ∷ ends) more first = (first.0, first_append n bits ends more first.1)

first_drop : (n k bits : ℕ) (ends : List ℕ) → FirstWithin n bits ends → FirstWithin (n - k) bits (drop k ends)
first_drop n zero bits ends first = let same : n - 0 ≡ n = omega arith in subst (λ (m : ℕ). FirstWithin m bits ends) (sym same) first
first_drop zero (suc k) bits ends first = let none : 0 - suc k ≡ 0 = omega arith in subst (λ (m : ℕ). FirstWithin m bits (drop (suc k) ends)) (sym none) tt
first_drop (suc n) (suc k) bits [] first = absurd first
first_drop (suc n) (suc k) bits (last ∷ ends) first =
    let less : suc n - suc k ≡ n - k = omega arith in
    subst (λ (m : ℕ). FirstWithin m bits (drop k ends)) (sym less) (first_drop n k bits ends first.1)

pub first_on : (n k bits : ℕ) (ends more : List ℕ) → FirstWithin n bits ends → FirstWithin (n - k) bits (drop k ends ++ more)
first_on n k bits ends more first = first_append (n - k) bits (drop k ends) more (first_drop n k bits ends first)

-- those that end by then come
pub come_first : (n bits : ℕ) (ends : List ℕ) → FirstWithin n bits ends → n ≤ come_by bits ends
come_first zero bits ends first = omega arith
come_first (suc n) bits [] first = absurd first
come_first (suc n) bits (last ∷ ends) first =
    let is : nat_le last bits ≡ true = grind (arith, nat_tests, first.0) in
    let rest = come_first n bits ends first.1 in
    let all : come_by bits (last ∷ ends) ≡ suc (come_by bits ends) = ap (λ (c : Bool). if c then suc (come_by bits ends) else 0) is in
    omega (arith, rest, all)

-- A PLACE ON, by a step
module _ (hears sends : List Doing) (left : ℕ) (place : Place) where
  abbrev then_at : Place
  then_at = place_by hears sends left place

  pub line_on : (before now : ℕ) → place.put ≡ place.came + before → now + length hears ≡ before + length sends → then_at.put ≡ then_at.came + now
  line_on before now is step = omega (arith, is, step)

  pub within_on : (bits : ℕ) → bits ≤ 8 * length sends + left → AllWithin (8 * place.put + bits) place.ends → AllWithin (8 * then_at.put + left) then_at.ends
  within_on bits few all =
      within_both (8 * then_at.put + left) (drop (coming_in hears place) place.ends) (ends_of sends (8 * then_at.put + left))
      (within_drop (coming_in hears place) (8 * then_at.put + left) place.ends
      (within_more (8 * place.put + bits) (8 * then_at.put + left) place.ends (omega (arith, few)) all))
      (sent_within (8 * then_at.put + left) (units_of sends))

  pub many_on : (marked : Bool) (way : Way) → length place.ends ≡ length (carried_in way)
      → length then_at.ends ≡ length (carried_in (settled_if marked (joined_by (sent_in sends) (left_by (coming_in hears place) way))))
  many_on marked way same =
      let count = coming_in hears place in
      let all : carried_in (settled_if marked (joined_by (sent_in sends) (left_by count way))) ≡ drop count (carried_in way) ++ sent_in sends =
      carried_on count (sent_in sends) marked way in
      omega (
        arith,
        same,
        length-append (drop count place.ends) (ends_of sends (8 * then_at.put + left)),
        length-drop count place.ends,
        length-map (units_of sends) (λ (unit : SignalUnit). 8 * then_at.put + left),
        ap length (units_sent sends),
        length-map (sent_in sends) (λ (c : Carried). c.unit),
        ap length all,
        length-append (drop count (carried_in way)) (sent_in sends),
        length-drop count (carried_in way),
      )
