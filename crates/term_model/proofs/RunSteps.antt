-- Turns one after another: by induction on what they did.
use Rattle.std.proofs.Common.{refl, sym, ap, subst, ◌≡◌, ◌∙◌, ℕ, Bool, List, [], ◌∷◌, ◌++◌, append_assoc, Option, Some, None}
use Rattle.std.proofs.lemmas.List.{append-nil}
use Rattle.std.specs.Option.{option_to_list}
use Rattle.l2_bits.specs.LineBits.{line_bits}
use Rattle.set_events.specs.declared.event.Event.{Event}
use Rattle.set_events.specs.declared.history.Entry.{Entry}
use Rattle.term_model.specs.OctetIn.{bits_in}
use Rattle.term_model.specs.Runs.{Doing, AreTurns, octets_in, entries_of, AreSoundTurns}
use Rattle.term_model.specs.Terminal.{Terminal}
use Rattle.term_model.specs.TurnLaws.{AllAsked, IsOfLink, IsSound, GoesOn}
use Rattle.term_model.proofs.TurnStays.{turn_sound}

-- the bits of an octet, if any, and of those that come after it
bits_then : (octet : Option ℕ) (rest : List ℕ) → line_bits (option_to_list octet ++ rest) ≡ bits_in octet ++ line_bits rest
bits_then None rest = refl
bits_then (Some octet) rest = refl

pub runs_join : (first second : List Doing) (taken : List Bool) (before mid after : Terminal)
    → AreTurns first taken before mid → AreTurns second (taken ++ line_bits (octets_in first)) mid after
    → AreTurns (first ++ second) taken before after
runs_join [] second taken before mid after same more =
    subst (λ t. AreTurns second taken t after) same (subst (λ bits. AreTurns second bits mid after) (append-nil taken) more)
runs_join (doing ∷ rest) second taken before mid after turns more = (
  turns.0,
  turns.1,
  runs_join rest second (taken ++ bits_in doing.octet) turns.0 mid after turns.2
      (subst (λ bits. AreTurns second bits mid after)
      (ap (λ bits. taken ++ bits) (bits_then doing.octet (octets_in rest)) ∙ sym (append_assoc taken (bits_in doing.octet) (line_bits (octets_in rest))))
      more),
)

all_asked_then : (such : Event → Type 0) (first second : List Entry) → AllAsked such first → AllAsked such second → AllAsked such (first ++ second)
all_asked_then such [] second at_first at_second = at_second
all_asked_then such (entry ∷ first) second at_first at_second = (at_first.0, all_asked_then such first second at_first.1 at_second)

pub runs_sound : (doings : List Doing) (taken : List Bool) (before after : Terminal) → IsSound before → AreTurns doings taken before after → AreSoundTurns before doings after
runs_sound [] taken before after sound same = record {
  of_link = tt;
  goes_on = subst (λ t. GoesOn before t) (sym same) (record { link_is = refl; lengths_are = refl; sound = sound });
}
runs_sound (doing ∷ rest) taken before after sound turns =
    let one = turn_sound taken before doing.octet doing.entries doing.put doing.marks turns.0 sound turns.1.turn in
    let more = runs_sound rest (taken ++ bits_in doing.octet) turns.0 after one.goes_on.sound turns.2 in record {
      of_link = all_asked_then (IsOfLink before.link) doing.entries (entries_of rest) one.of_link
          (subst (λ link. AllAsked (IsOfLink link) (entries_of rest)) one.goes_on.link_is more.of_link);
      goes_on = record {
        link_is = more.goes_on.link_is ∙ one.goes_on.link_is;
        lengths_are = more.goes_on.lengths_are ∙ one.goes_on.lengths_are;
        sound = more.goes_on.sound;
      };
    }
