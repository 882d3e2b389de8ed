-- What a tap was told that had been told of nothing before, and so the unit of a turn.
use Rattle.std.proofs.Common.{◌≡◌, ◌∙◌, ap, ℕ, List, length, Option, Some, None, Ok}
use Rattle.end_calls.specs.Hearing.{brings, keeps}
use Rattle.end_calls.specs.Turning.{IsTurned, at_front, turned, unit_text}
use Rattle.end_calls.specs.declared.turning.TurnedValues.{TurnedValues}
use Rattle.l2_bits.specs.LineBits.{bits_of}
use Rattle.l2_units.specs.declared.unit.Unit.{Unit as SignalUnit}
use Rattle.link_term.specs.Filling.{Taps}
use Rattle.link_term.specs.declared.tap.LastUnit.{LastUnit}
use Rattle.term_managed.specs.Ends.{ManagedState}
use Rattle.term_managed.specs.Turns.{HeardTurn, Hears}

told_by : (unit : Option SignalUnit) (tap tap' : LastUnit) → tap.unit ≡ None → Taps keeps unit tap tap' → tap'.unit ≡ unit
told_by None tap tap' none taps = ap (λ (t : LastUnit). t.unit) taps ∙ none
told_by (Some unit) tap tap' none taps = taps

values_are : (a b : TurnedValues) → a.unit ≡ b.unit → a.put ≡ b.put → a.message ≡ b.message → a ≡ b
values_are a b unit put message = λ i. record { unit = unit i; put = put i; message = message i }

pub turned_told : (link octet : ℕ) (room room' : List ℕ) (was : TurnedValues) (old new : ManagedState) (tap tap' : LastUnit)
    (seen : Option SignalUnit) (count put message : ℕ) → tap.unit ≡ None → seen ≡ tap'.unit
    → (one : HeardTurn) × Hears link (bits_of 8 octet) old one.turn one.unit new × (put ≡ one.turn.turn.put)
    × (message ≡ brings one.turn.turn) × Taps keeps one.unit tap tap'
    → count ≡ length (unit_text seen) → room' ≡ at_front (unit_text seen) room
    → IsTurned link octet room was old (Ok tt) room' (record { unit = count; put = put; message = message }) new
turned_told link octet room room' was old new tap tap' seen count put message none seen_is went counted room_is =
    let one = went.0 in let is : seen ≡ one.unit = seen_is ∙ told_by one.unit tap tap' none went.4 in (
      one,
      went.1,
      values_are _ (turned one) (counted ∙ ap (λ (u : Option SignalUnit). length (unit_text u)) is) went.2 went.3,
      room_is ∙ ap (λ (u : Option SignalUnit). at_front (unit_text u) room) is,
    )
