-- The worked rows, by computation.
use Rattle.std.proofs.Common.{refl, sym, ap, subst, ◌≡◌, ℕ, true, [], ◌∷◌, ◌++◌, take, drop, Some, None}
use Rattle.l2_bits.specs.CheckBits.{sum_of, generator, remainder_after, dividend_of, check_bits}
use Rattle.l2_bits.specs.Flags.{flag}
use Rattle.l2_bits.specs.LineBits.{bits_of, number_of, line_bits}
use Rattle.l2_bits.specs.SealedText.{check_octets, sealed_text}
use Rattle.l2_bits.specs.Stuffing.{text_after}
use Rattle.l2_bits.proofs.StuffingLemmas.{has_text}
use Rattle.l2_units.specs.declared.unit.Unit.{Unit as SignalUnit}
use Rattle.l2_units.specs.Grammar.{text}
use Rattle.l2_units.specs.declared.profile.Profile.TheVariants.{Narrow}
use Rattle.term_model.specs.Choosing.{Filled}
use Rattle.term_model.specs.OctetOut.{Appends}
use Rattle.term_model.specs.Rows.{AlignmentRows, ServiceRows, SioGoesOut}
use Rattle.term_model.specs.Talk.{Went}
use Rattle.term_model.specs.Terminal.{Terminal}
use Rattle.term_model.specs.Turn.{turn_talk, IsTurn}

pub alignment_rows : AlignmentRows
alignment_rows = record {
  starts = (_, refl, (refl, refl, refl, refl));
  hears_sio = (_, refl, (refl, refl, refl, refl));
  in_emergency = (_, refl, (refl, refl));
  emergency_ceases = (_, refl, (refl, refl, refl));
  hears_sin = (_, refl, (refl, refl, refl, refl));
  hears_sie = (_, refl, (refl, refl, refl));
  four_aborts = (_, refl, (refl, refl, refl));
  five_aborts = (_, refl, (refl, refl, refl, refl));
}

pub service_rows : ServiceRows
service_rows = record {
  completes = (_, refl, (refl, refl, refl, refl));
  comes_up = (_, (refl, (refl, refl)), (refl, refl));
  is_refused = (_, (refl, refl), (refl, refl));
  damaged = (_, refl, (refl, refl));
  runs_on = (_, refl, (refl, refl));
  trips = (_, (refl, refl), (refl, refl, refl));
  hears_sio = (_, (refl, refl), (refl, refl, refl));
  stops_blind = (_, (refl, refl), (refl, refl));
  pauses = (_, (refl, refl), (refl, refl));
}

-- a turn of a terminal that has eight bits left to send
more_bits : (t : Terminal) (chosen : Filled) (octet : ℕ) → Went (turn_talk [] t) [] chosen → chosen.narrow ≡ true → chosen.unit ≡ None → octet ≡ number_of (take 8 chosen.after.bits)
    → IsTurn [] t None [] (octet ∷ []) [] (record chosen.after { bits = drop 8 chosen.after.bits })
more_bits t chosen octet went narrow none is = record {
  gives = refl;
  chosen = chosen;
  went = went;
  narrow = narrow;
  puts = record {
    bits = chosen.after.bits;
    appends = subst (λ unit. Appends unit chosen.after.bits chosen.after.bits) (sym none) refl;
    has_room = true;
    put_is = ap (λ n. n ∷ []) is;
    after_is = refl;
  };
}

-- a turn that appends a unit
next_unit : (t : Terminal) (chosen : Filled) (unit : SignalUnit) (octet : ℕ) → Went (turn_talk [] t) [] chosen → chosen.narrow ≡ true → chosen.unit ≡ Some unit
    → octet ≡ number_of (take 8 (chosen.after.bits ++ text_after 0 (line_bits (sealed_text (text Narrow unit))) ++ flag))
    → IsTurn [] t None [] (octet ∷ []) [] (record chosen.after { bits = drop 8 (chosen.after.bits ++ text_after 0 (line_bits (sealed_text (text Narrow unit))) ++ flag) })
next_unit t chosen unit octet went narrow is_unit is = record {
  gives = refl;
  chosen = chosen;
  went = went;
  narrow = narrow;
  puts = record {
    bits = chosen.after.bits ++ text_after 0 (line_bits (sealed_text (text Narrow unit))) ++ flag;
    appends = subst (λ u. Appends u chosen.after.bits (chosen.after.bits ++ text_after 0 (line_bits (sealed_text (text Narrow unit))) ++ flag)) (sym is_unit)
        (record { wire = text_after 0 (line_bits (sealed_text (text Narrow unit))); stuffed = has_text (line_bits (sealed_text (text Narrow unit))); appended = refl });
    has_room = true;
    put_is = ap (λ n. n ∷ []) is;
    after_is = refl;
  };
}

pub sio_goes_out : SioGoesOut
unfolding flag number_of bits_of sum_of generator remainder_after dividend_of check_bits check_octets sealed_text text_after
sio_goes_out = (
  _,
  more_bits _ _ 0x7E refl refl refl refl,
  (
    _,
    next_unit _ _ _ 0xDF refl refl refl refl,
    (
      _,
      more_bits _ _ 0xF7 refl refl refl refl,
      (
        _,
        more_bits _ _ 0x0D refl refl refl refl,
        (
          _,
          more_bits _ _ 0x00 refl refl refl refl,
          (
            _,
            more_bits _ _ 0x38 refl refl refl refl,
            (
              _,
              more_bits _ _ 0x31 refl refl refl refl,
              (_, more_bits _ _ 0xF7 refl refl refl refl, tt),
            ),
          ),
        ),
      ),
    ),
  ),
)
