-- What a heard unit leaves of the window.
use Rattle.std.proofs.Common.{refl, arith, ◌≡◌, ◌<◌, ℕ, Bool, true, false}
use Rattle.l2_units.proofs.Texts.{same_header}
use Rattle.l2_units.specs.declared.unit.Header.{Header}
use Rattle.l2_window.specs.Window.{WindowState, fsn_count}
use Rattle.l2_window.specs.Control.{acked_where, window_where, header_of}
use Rattle.l2_window.proofs.Numbers.{no_distance}

-- where a heard unit acknowledges nothing, the window heard is the window
pub nothing_heard : (processed : Bool) (w : WindowState) (head : Header) → head.bsn < fsn_count w.profile → w.last < fsn_count w.profile → acked_where processed w head ≡ 0 → window_where processed w head ≡ w
nothing_heard false w head b l e = refl
nothing_heard true w head b l e = let same = no_distance w.profile w.last head.bsn e b l in rw (e, same) refl

-- a header with these parts is the header of them
pub whole : (h : Header) (bsn fsn : ℕ) (bib fib : Bool) → h.bsn ≡ bsn → h.bib ≡ bib → h.fsn ≡ fsn → h.fib ≡ fib → h ≡ header_of bsn bib fsn fib
whole h bsn fsn bib fib b c f g =
    let low : h.bsn < 4096 = h.bsn_in_range in
    let low' : h.fsn < 4096 = h.fsn_in_range in
    same_header h (header_of bsn bib fsn fib) (omega (arith, b)) c (omega (arith, f)) g
