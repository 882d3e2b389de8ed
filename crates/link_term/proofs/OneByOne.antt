-- A RUN IS ITS TURNS, one by one, and what it takes of what waited: for the law `a_run_is_its_turns`. Inductions over what the
-- turns did.
use Rattle.std.proofs.Common.{refl, sym, ap, subst, arith, ◌≡◌, ◌∙◌, ℕ, suc, ◌+◌, ◌≤◌, ◌<◌, List, [], ◌∷◌, ◌++◌, length, Option, Some, None, append_assoc, append-nil, length-append}
use mathlib.Core.List.{IsPrefix}
use Rattle.std.proofs.lemmas.Grind.{flat_map-append}
use Rattle.std.specs.Option.{option_to_list}
use Rattle.l2_bits.specs.LineBits.{bits_of, line_bits}
use Rattle.set_events.specs.declared.fault.SetFault.{SetFault}
use Rattle.set_events.specs.declared.history.Entry.{Entry}
use Rattle.term_model.specs.OctetIn.{bits_in}
use Rattle.term_model.specs.Runs.{Doing, AreTurns, octets_in, octets_out, entries_of}
use Rattle.term_model.specs.Terminal.{Terminal}
use Rattle.link_term.specs.declared.counts.Turned.{Turned}
use Rattle.link_term.specs.Filling.{filling_of}
use Rattle.link_term.specs.Looking.{Seen, AllLook}
use Rattle.link_term.specs.Octets.{counts_of}
use Rattle.link_term.specs.Running.{OneByOne, RunsAreTurns, RunsTakeWhatWaits, TakesWhatWaits}
use Rattle.link_term.specs.Standing.{Standing, standing}

-- the bits of octets, and of one more
bits_then : (taken : List ℕ) (octet : Option ℕ) → line_bits (taken ++ option_to_list octet) ≡ line_bits taken ++ bits_in octet
bits_then taken None = ap line_bits (append-nil taken) ∙ sym (append-nil (line_bits taken))
bits_then taken (Some octet) =
    flat_map-append (bits_of 8) taken (octet ∷ []) ∙ ap (λ (bits : List _). line_bits taken ++ bits) (append-nil (bits_of 8 octet))

-- a terminal stands so
stands_so : (after : Standing) (taken : List ℕ) (inside : Terminal) (made : List Entry) (faults : List SetFault) (line : Seen)
    → after.taken ≡ taken → after.inside ≡ inside → after.made ≡ made → after.faults ≡ faults → after.line ≡ line
    → after ≡ standing taken inside made faults line
stands_so after taken inside made faults line a b c d e =
    ap (λ (x : List ℕ). standing x after.inside after.made after.faults after.line) a
    ∙ ap (λ (x : Terminal). standing taken x after.made after.faults after.line) b
    ∙ ap (λ (x : List Entry). standing taken inside x after.faults after.line) c
    ∙ ap (λ (x : List SetFault). standing taken inside made x after.line) d
    ∙ ap (λ (x : Seen). standing taken inside made faults x) e

-- what grew by one thing and the rest
rest_of : {X : Type 0} (start one more all : List X) → all ≡ start ++ (one ++ more) → all ≡ (start ++ one) ++ more
rest_of start one more all is = is ∙ sym (append_assoc start one more)

one_by_one : (doings : List Doing) (before after : Standing) → AreTurns doings (line_bits before.taken) before.inside after.inside
    → after.taken ≡ before.taken ++ octets_in doings → after.made ≡ before.made ++ entries_of doings
    → after.faults ≡ before.faults → AllLook doings before.line after.line → OneByOne (length doings) before after
one_by_one [] before after inside taken made faults line =
    stands_so after before.taken before.inside before.made before.faults before.line (taken ∙ append-nil before.taken) inside
    (made ∙ append-nil before.made) faults line
one_by_one (doing ∷ rest) before after (inside, did, more) taken made faults (line, looks, all) =
    let mid : Standing = standing (before.taken ++ option_to_list doing.octet) inside (before.made ++ doing.entries) before.faults line in
    let turned : Turned = record { marks = counts_of doing.marks; filling = filling_of did.turn.chosen } in (
      turned,
      mid,
      record {
        octet = doing.octet;
        entries = doing.entries;
        out = doing.put;
        marks = doing.marks;
        turn = did.turn;
        taken_is = refl;
        made_is = refl;
        no_fault = refl;
        looks = looks;
        counts_are = refl;
        filling_is = refl;
      },
      one_by_one rest mid after
          (subst (λ b. AreTurns rest b inside after.inside) (sym (bits_then before.taken doing.octet)) more)
          (rest_of before.taken (option_to_list doing.octet) (octets_in rest) after.taken taken)
          (rest_of before.made doing.entries (entries_of rest) after.made made) faults all,
    )

pub runs_are_turns : RunsAreTurns
runs_are_turns turns before report after runs =
    subst (λ n. OneByOne n before after) runs.run.turns_are
    (one_by_one runs.run.doings before after runs.run.are_turns
    (runs.taken_is ∙ ap (λ (os : List ℕ). before.taken ++ os) runs.run.given_is)
    (runs.made_is ∙ ap (λ (es : List Entry). before.made ++ es) runs.run.entries_are) runs.no_fault runs.looks)

-- what waited comes first of what was taken and of what waits then, turn by turn
oldest : (one more : List ℕ) (a b c : List ℕ) → IsPrefix a (one ++ b) → IsPrefix b (more ++ c) → IsPrefix a ((one ++ more) ++ c)
oldest one more a b c (came, first) (later, second) = (
  came ++ later,
  sym (append_assoc a came later) ∙ ap (λ (w : List ℕ). w ++ later) first ∙ append_assoc one b later
      ∙ ap (λ (w : List ℕ). one ++ w) second ∙ sym (append_assoc one more c),
)

-- a turn that took an octet took one of what waited; one that took none found none
takes_one : (octet : Option ℕ) (a b more : List ℕ) (turns : ℕ) → IsPrefix a (option_to_list octet ++ b) → (octet ≡ None → a ≡ [])
    → (length more < turns → length b ≤ length more) → length (option_to_list octet ++ more) < suc turns
    → length a ≤ length (option_to_list octet ++ more)
takes_one None a b more turns first none rest few = subst (λ (w : List ℕ). length w ≤ length more) (sym (none refl)) (omega arith)
takes_one (Some octet) a b more turns (came, first) none rest few =
    let many : length a + length came ≡ suc (length b) = sym (length-append a came) ∙ ap length first in
    let left : length b ≤ length more = rest (omega (arith, few)) in omega (arith, many, left)

-- a turn that put octets filled so many places; one that put none found the line full
fills_one : (put more : List ℕ) (a b : ℕ) (turns : ℕ) → a ≤ b + length put → (put ≡ [] → b ≡ 0)
    → (length more < turns → b ≤ length more) → length (put ++ more) < suc turns → a ≤ length (put ++ more)
fills_one [] more a b turns frees full rest few =
    let none : b ≡ 0 = full refl in omega (arith, frees, none)
fills_one (octet ∷ put) more a b turns frees full rest few =
    let many : length (put ++ more) ≡ length put + length more = length-append put more in
    let left : b ≤ length more = rest (omega (arith, few, many)) in omega (arith, frees, many, left)

all_take : (doings : List Doing) (before after : Seen) → AllLook doings before after
    → TakesWhatWaits (length doings) (octets_in doings) (octets_out doings) before after
all_take [] before after same = record {
  oldest_first = ([], append-nil before.waiting ∙ ap (λ (s : Seen). s.waiting) (sym same));
  takes = λ few. absurd (omega (arith, few));
  fills = λ few. absurd (omega (arith, few));
}
all_take (doing ∷ rest) before after (mid, looks, all) =
    let more = all_take rest mid after all in record {
      oldest_first = oldest (option_to_list doing.octet) (octets_in rest) before.waiting mid.waiting after.waiting looks.passes.waits
          more.oldest_first;
      takes = takes_one doing.octet before.waiting mid.waiting (octets_in rest) (length rest) looks.passes.waits looks.none_waited
          more.takes;
      fills = fills_one doing.put (octets_out rest) before.free mid.free (length rest) looks.passes.frees looks.was_full more.fills;
    }

pub runs_take : RunsTakeWhatWaits
runs_take turns before report after runs =
    let all = all_take runs.run.doings before.line after.line runs.looks in
    subst (λ n. TakesWhatWaits n runs.octets runs.out before.line after.line) runs.run.turns_are
    (subst (λ (os : List ℕ). TakesWhatWaits (length runs.run.doings) os runs.out before.line after.line) (sym runs.run.given_is)
    (subst (λ (out : List ℕ). TakesWhatWaits (length runs.run.doings) (octets_in runs.run.doings) out before.line after.line)
    (sym runs.run.put_is) all))
