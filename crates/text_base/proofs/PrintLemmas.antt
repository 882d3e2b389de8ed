-- What is printed and written, piece after piece.
use Rattle.std.proofs.Common.{refl, arith, ◌≡◌, ◌≢◌, ◌∙◌, ap, sym, ◌<◌, ◌≤◌, [], length, ℕ, ◌+◌, ◌-◌, ◌^◌, List, ◌++◌, take, drop, Option, Some, None, Result, Ok, Err, MatchResult, IfSome, OnOk, subst, length-append, append_assoc, append-nil, take-append-drop}
use Rattle.std.proofs.lemmas.Grind.{common_steps}
use Rattle.std.proofs.Math.Seq.{take-add}
use Rattle.std.specs.Result.{IsErrAnd}
use Rattle.std.specs.Io.KnownBytes.{Appends, Consumes, IsAtEnd}
use Rattle.std.proofs.KnownBytes.{Appends-trans, Appends-nil, Consumes-trans, Consumes-nil, Consumes-whole}
use Rattle.text_base.specs.declared.device.DeviceFault.{DeviceFault}
use Rattle.text_base.specs.declared.fault.Stop.{Stop}
use Rattle.text_base.specs.declared.fault.Stop.TheVariants.{Input as InputStops, Memory as MemoryStops}
use Rattle.text_base.specs.declared.fault.Fault.{Fault}
use Rattle.text_base.specs.declared.fault.Fault.TheVariants.{Input, Memory, Read, Long, Write}
use Rattle.text_base.specs.Printing.{Printed, IsBegun, StopsIn, EndsIn, fault_of, answer_of, Texts, Progress, Ends, ReadsOrStops, Writes, Passes, Breaks, PassesOrBreaks, Closes, Prints, IsDevices, FailsByDevices, FailsBySink}

-- what is written after what was written
pub appends_more : (a b c : Option (List ℕ)) (xs ys zs : List ℕ) → Appends a b xs → Appends b c ys → zs ≡ xs ++ ys → Appends a c zs
appends_more a b c xs ys zs p q e = rw e (Appends-trans a b c xs ys p q)

-- a piece of the slice from a place on
pub length-slice : (octets : List ℕ) (written : ℕ) → length (take (length octets - written) (drop written octets)) ≡ length octets - written
length-slice octets written = grind (arith, common_steps)

pub take_then : (octets : List ℕ) (written count : ℕ) → count ≤ length (take (length octets - written) (drop written octets)) → take (written + count) octets ≡ take written octets ++ take count (take (length octets - written) (drop written octets))
take_then octets written count h =
    let all : take (length octets - written) (drop written octets) ≡ drop written octets = grind (arith, common_steps) in
    rw all (take-add written count octets)

-- the front of a piece, and the rest of it
front_of_piece : (buffer : List ℕ) (few count : ℕ) → few ≤ count → take count buffer ≡ take few buffer ++ drop few (take count buffer)
front_of_piece buffer few count h =
    let same : take few (take count buffer) ≡ take few buffer = grind (arith, common_steps) in
    sym (take-append-drop few (take count buffer)) ∙ ap (λ (x : List ℕ). x ++ drop few (take count buffer)) same

-- Beginnings.

-- what was printed before a fault is a beginning of the text
pub begun_of_end : {F : Type 0} (stop : Stop F) (IsIt : Printed F → Type 0) (printed : List ℕ) → ((a b : Printed F) → IsIt a → IsIt b → a ≡ b) → StopsIn stop IsIt printed → IsBegun IsIt printed
begun_of_end {F} (InputStops fault) IsIt printed one e text is = ([], ap (λ (t : Printed F). t.printed) (one text _ is e) ∙ sym (append-nil printed))
begun_of_end MemoryStops IsIt printed one e text is = e text is

-- a printer's fault ends the whole so
ends_so : {F : Type 0} (stop : Stop F) (IsIt : Printed F → Type 0) (printed : List ℕ) → StopsIn stop IsIt printed → EndsIn (fault_of stop) IsIt printed
ends_so (InputStops fault) IsIt printed e = e
ends_so MemoryStops IsIt printed e = e

-- and so is what was written of it
shorter : {F : Type 0} (IsIt : Printed F → Type 0) (lines printed written rest : List ℕ) → printed ≡ written ++ rest → IsBegun IsIt (lines ++ printed) → IsBegun IsIt (lines ++ written)
shorter IsIt lines printed written rest e b text is =
    let more = b text is in
    (rest ++ more.0, more.1 ∙ ap (λ (x : List ℕ). (lines ++ x) ++ more.0) e ∙ ap (λ (x : List ℕ). x ++ more.0) (sym (append_assoc lines written rest)) ∙ append_assoc (lines ++ written) rest more.0)

-- and is none of a device
no_device : {F : Type 0} (stop : Stop F) (R L W N : Type 0) → N → IsDevices (fault_of stop) R L W N
no_device (InputStops fault) R L W N none = none
no_device MemoryStops R L W N none = none

-- What was added is then written.

-- all of it
all_written : (before after : List ℕ) (a b : Option (List ℕ)) (printed : List ℕ) → before ≡ [] → after ≡ before ++ printed → Writes (Ok tt) after a b → Appends a b printed
all_written before after a b printed e f w =
    let whole : w.written ≡ printed = sym (append-nil w.written) ∙ ap (λ (x : List ℕ). w.written ++ x) (sym w.ends) ∙ sym w.split ∙ f ∙ ap (λ (x : List ℕ). x ++ printed) e in
    rw (← whole) w.added

pub whole : (result : Result (Unit {0}) DeviceFault) (octets : List ℕ) (old new : Option (List ℕ)) → Writes result octets old new → OnOk result (Appends old new octets)
whole (Ok done) octets old new w = all_written [] octets old new octets refl refl w
whole (Err fault) octets old new w = tt

-- or a front, before the writer failed
some_written : (before after : List ℕ) (a b : Option (List ℕ)) (printed : List ℕ) (fault : DeviceFault) → before ≡ [] → after ≡ before ++ printed → (w : Writes (Err fault) after a b) → printed ≡ w.written ++ w.more
some_written before after a b printed fault e f w = ap (λ (x : List ℕ). x ++ printed) (sym e) ∙ sym f ∙ w.split

module _ {F : Type 0} (IsText : Texts F) where
  -- what a piece prints, as far as it was written
  pub passes : (read : Result (Unit {0}) (Stop F)) (wrote : Result (Unit {0}) DeviceFault) (HadRead HasRead : Progress) (octets before after : List ℕ) (a b : Option (List ℕ)) → before ≡ []
      → ReadsOrStops IsText read HadRead octets before after HasRead → Writes wrote after a b → PassesOrBreaks IsText (answer_of read wrote) HadRead octets a b HasRead
  passes (Ok done) (Ok all) HadRead HasRead octets before after a b e r w = record { printed = r.printed; added = all_written before after a b r.printed e r.added w; goes_on = r.goes_on; begun = r.begun }
  passes (Err stop) (Ok all) HadRead HasRead octets before after a b e r w = record {
    printed = r.printed;
    added = all_written before after a b r.printed e r.added w;
    ends = λ past lines fits had left. ends_so stop (IsText (past ++ (octets ++ left))) (lines ++ r.printed) (r.ends past lines fits had left);
  }
  passes (Ok done) (Err fault) HadRead HasRead octets before after a b e r w = record {
    printed = w.written;
    added = w.added;
    ends = λ past lines fits had left.
        shorter (IsText (past ++ (octets ++ left))) lines r.printed w.written w.more (some_written before after a b r.printed fault e r.added w) (r.begun past lines fits had left);
  }
  passes (Err stop) (Err fault) HadRead HasRead octets before after a b e r w = record {
    printed = w.written;
    added = w.added;
    ends = λ past lines fits had left.
        shorter (IsText (past ++ (octets ++ left))) lines r.printed w.written w.more (some_written before after a b r.printed fault e r.added w) (r.begun past lines fits had left);
  }

  -- and what the end prints
  pub closes : (ended : Result (Unit {0}) (Stop F)) (wrote : Result (Unit {0}) DeviceFault) (HadRead : Progress) (before after : List ℕ) (a b : Option (List ℕ)) → before ≡ []
      → Ends IsText ended HadRead before after → Writes wrote after a b → Closes IsText (answer_of ended wrote) HadRead a b
  closes (Ok done) (Ok all) HadRead before after a b e r w = record { printed = r.printed; added = all_written before after a b r.printed e r.added w; ends = r.ends }
  closes (Err stop) (Ok all) HadRead before after a b e r w = record {
    printed = r.printed;
    added = all_written before after a b r.printed e r.added w;
    ends = λ past lines fits had. ends_so stop (IsText past) (lines ++ r.printed) (r.ends past lines fits had);
  }
  closes (Ok done) (Err fault) HadRead before after a b e r w = record {
    printed = w.written;
    added = w.added;
    ends = λ past lines fits had.
        shorter (IsText past) lines r.printed w.written w.more (some_written before after a b r.printed fault e r.added w) (r.begun past lines fits had);
  }
  closes (Err stop) (Err fault) HadRead before after a b e r w = record {
    printed = w.written;
    added = w.added;
    ends = λ past lines fits had.
        shorter (IsText past) lines r.printed w.written w.more (some_written before after a b r.printed fault e r.added w) (r.begun past lines fits had);
  }

-- a writer's failure is told where a write failed, and nowhere else; a reader's never
pub devices : {F : Type 0} (read : Result (Unit {0}) (Stop F)) (wrote : Result (Unit {0}) DeviceFault) (w w' : ℕ)
    → MatchResult wrote (λ done. w' ≡ w) (λ fault. w' ≢ w) → FailsBySink (answer_of read wrote) w w'
devices (Ok done) (Ok all) w w' h = h
devices (Err stop) (Ok all) w w' h = no_device stop ⊥ ⊥ (w' ≢ w) (w' ≡ w) h
devices (Ok done) (Err fault) w w' h = h
devices (Err stop) (Err fault) w w' h = h

-- the same of the whole, where nothing failed before
pub whole_devices : {F : Type 0} (fault : Fault F) (r r1 w w1 w' : ℕ) (L : Type 0) → r1 ≡ r → w1 ≡ w
    → IsDevices fault ⊥ ⊥ (w' ≢ w1) (w' ≡ w1)
    → IsDevices fault ((r1 ≢ r) × (w' ≡ w)) (L × (r1 ≡ r) × (w' ≡ w)) ((r1 ≡ r) × (w' ≢ w)) ((r1 ≡ r) × (w' ≡ w))
whole_devices (Input fault) r r1 w w1 w' L read wrote is = (read, is ∙ wrote)
whole_devices Memory r r1 w w1 w' L read wrote is = (read, is ∙ wrote)
whole_devices Read r r1 w w1 w' L read wrote is = absurd is
whole_devices Long r r1 w w1 w' L read wrote is = absurd is
whole_devices Write r r1 w w1 w' L read wrote is = (read, λ same. is (same ∙ sym wrote))

pub ended_devices : {F : Type 0} (result : Result (Unit {0}) (Fault F)) (longest r r1 w w1 w' : ℕ) (input : List ℕ) → r1 ≡ r → w1 ≡ w
    → FailsBySink result w1 w' → FailsByDevices longest result r r1 w w' input
ended_devices (Ok done) longest r r1 w w1 w' input read wrote is = (read, is ∙ wrote)
ended_devices (Err fault) longest r r1 w w1 w' input read wrote is = whole_devices fault r r1 w w1 w' (longest < length input) read wrote is

-- A source that is read piece by piece.

-- some octets were read, what they print was written, and so many may still be read
pub record Under {F : Type 0} (IsText : Texts F) (HasRead : Progress) (source0 source sink0 sink : Option (List ℕ)) (longest left counter : ℕ) : Type 0 where
  pub octets : List ℕ
  pub printed : List ℕ
  pub consumed : Consumes source0 source octets
  pub added : Appends sink0 sink printed
  pub has : HasRead octets printed
  pub begun : (rest : List ℕ) → IsBegun (IsText (octets ++ rest)) printed
  pub count : length octets + left ≡ longest
  pub calls : counter ≤ length octets

pub under_start : {F : Type 0} (IsText : Texts F) (HasRead : Progress) (source sink : Option (List ℕ)) (longest : ℕ) → HasRead [] [] → Under IsText HasRead source source sink sink longest longest 0
under_start IsText HasRead source sink longest has = record {
  octets = [];
  printed = [];
  consumed = Consumes-nil source;
  added = Appends-nil sink;
  has = has;
  begun = λ rest text is. (text.printed, refl);
  count = omega arith;
  calls = omega arith;
}

-- What was read is a front of the input.
read_front : (s0 s1 : Option (List ℕ)) (octets : List ℕ) (P : List ℕ → Type 0) → Consumes s0 s1 octets → ((rest : List ℕ) → P (octets ++ rest)) → IfSome s0 P
read_front None s1 octets P c h = tt
read_front (Some x) None octets P c h = absurd c
read_front (Some x) (Some y) octets P c h = subst P (sym c) (h y)

module _ {F : Type 0} (IsText : Texts F) (Had Has : Progress) (s0 s1 s2 w0 w1 w2 : Option (List ℕ)) (longest left counter : ℕ) (few_in_all : longest ≤ 2 ^ 60) (u : Under IsText Had s0 s1 w0 w1 longest left counter) where
  -- the reader failed
  pub read_failed : IfSome s0 (λ input. Prints (Err Read) (IsText input) w0 w1)
  read_failed = read_front s0 s1 u.octets (λ input. Prints (Err Read) (IsText input) w0 w1) u.consumed
      (λ rest. record { printed = u.printed; added = u.added; ends = u.begun rest })

  -- a piece was passed
  pub piece_passed : (few count : ℕ) (buffer : List ℕ) → few ≡ count → count ≤ length buffer → Consumes s1 s2 (take count buffer) → Passes IsText Had (take few buffer) w1 w2 Has → 0 < count → count ≤ left
      → Under IsText Has s0 s2 w0 w2 longest (left - count) (counter + 1)
  piece_passed few count buffer e h c p some enough =
      let long : length (take few buffer) ≡ count = rw e (grind (arith, common_steps)) in record {
        octets = u.octets ++ take few buffer;
        printed = u.printed ++ p.printed;
        consumed = Consumes-trans s0 s1 s2 u.octets (take few buffer) u.consumed (rw e c);
        added = Appends-trans w0 w1 w2 u.printed p.printed u.added p.added;
        has = p.goes_on u.octets u.printed (omega (arith, few_in_all, u.count, long, enough)) u.has;
        begun = λ rest. rw (append_assoc u.octets (take few buffer) rest) (p.begun u.octets u.printed (omega (arith, few_in_all, u.count, long, enough)) u.has rest);
        count = omega (arith, u.count, long, enough, length-append u.octets (take few buffer));
        calls = omega (arith, u.calls, long, some, length-append u.octets (take few buffer));
      }

  -- the octets up to a front of the piece, and what follows
  with_front : (few count : ℕ) (buffer : List ℕ) (P : List ℕ → Type 0) → few ≤ count → Consumes s1 s2 (take count buffer) → ((rest : List ℕ) → P (u.octets ++ (take few buffer ++ rest))) → IfSome s0 P
  with_front few count buffer P h c f =
      read_front s0 s2 (u.octets ++ take count buffer) P (Consumes-trans s0 s1 s2 u.octets (take count buffer) u.consumed c)
      (λ rest. rw (front_of_piece buffer few count h, append_assoc u.octets (take few buffer ++ drop few (take count buffer)) rest, append_assoc (take few buffer) (drop few (take count buffer)) rest) (f (drop few (take count buffer) ++ rest)))

  short_piece : (few : ℕ) (buffer : List ℕ) → few ≤ left → length u.octets + length (take few buffer) ≤ 2 ^ 60
  short_piece few buffer h = let short : length (take few buffer) ≤ few = grind (arith, common_steps) in omega (arith, few_in_all, u.count, short, h)

  -- one octet more came than may be read
  pub piece_too_much : (few count : ℕ) (buffer : List ℕ) → few ≤ count → few ≤ left → Consumes s1 s2 (take count buffer) → Passes IsText Had (take few buffer) w1 w2 Has → IfSome s0 (λ input. Prints (Err Long) (IsText input) w0 w2)
  piece_too_much few count buffer h k c p = with_front few count buffer (λ input. Prints (Err Long) (IsText input) w0 w2) h c (λ rest. record {
    printed = u.printed ++ p.printed;
    added = Appends-trans w0 w1 w2 u.printed p.printed u.added p.added;
    ends = p.begun u.octets u.printed (short_piece few buffer k) u.has rest;
  })

  -- such an input is too long
  pub too_long : (count : ℕ) (buffer : List ℕ) → count ≤ length buffer → left < count → Consumes s1 s2 (take count buffer) → IfSome s0 (λ input. longest < length input)
  too_long count buffer h more c =
      let long : length (take count buffer) ≡ count = grind (arith, common_steps) in
      read_front s0 s2 (u.octets ++ take count buffer) (λ input. longest < length input) (Consumes-trans s0 s1 s2 u.octets (take count buffer) u.consumed c)
      (λ rest. omega (arith, more, long, u.count, length-append u.octets (take count buffer), length-append (u.octets ++ take count buffer) rest))

  -- a fault among the octets of a piece
  pub piece_broke : (fault : Fault F) (few count : ℕ) (buffer : List ℕ) → few ≤ count → few ≤ left → Consumes s1 s2 (take count buffer) → Breaks IsText fault Had (take few buffer) w1 w2 → IfSome s0 (λ input. Prints (Err fault) (IsText input) w0 w2)
  piece_broke fault few count buffer h k c b = with_front few count buffer (λ input. Prints (Err fault) (IsText input) w0 w2) h c (λ rest. record {
    printed = u.printed ++ b.printed;
    added = Appends-trans w0 w1 w2 u.printed b.printed u.added b.added;
    ends = b.ends u.octets u.printed (short_piece few buffer k) u.has rest;
  })

  -- the source is at its end
  at_end : (count : ℕ) (buffer : List ℕ) (P : List ℕ → Type 0) → count ≡ 0 → 0 < length buffer → Consumes s1 s2 (take count buffer) × (count ≡ 0 → 0 < length buffer → IsAtEnd s2) → P u.octets → IfSome s0 P
  at_end count buffer P e h c p =
      Consumes-whole s0 s2 (u.octets ++ []) P (Consumes-trans s0 s1 s2 u.octets [] u.consumed (subst (λ (n : ℕ). Consumes s1 s2 (take n buffer)) e c.0)) (c.1 e h) (rw (append-nil u.octets) p)

  pub piece_ended : (result : Result (Unit {0}) (Fault F)) (count : ℕ) (buffer : List ℕ) → count ≡ 0 → 0 < length buffer → Consumes s1 s2 (take count buffer) × (count ≡ 0 → 0 < length buffer → IsAtEnd s2)
      → Closes IsText result Had w1 w2 → IfSome s0 (λ input. Prints result (IsText input) w0 w2)
  piece_ended result count buffer e h c p = at_end count buffer (λ input. Prints result (IsText input) w0 w2) e h c (record {
    printed = u.printed ++ p.printed;
    added = Appends-trans w0 w1 w2 u.printed p.printed u.added p.added;
    ends = p.ends u.octets u.printed (omega (arith, few_in_all, u.count)) u.has;
  })

  -- an input that was read to its end is no longer than may be read
  pub piece_bounded : (result : Result (Unit {0}) (Fault F)) (count : ℕ) (buffer : List ℕ) → count ≡ 0 → 0 < length buffer → Consumes s1 s2 (take count buffer) × (count ≡ 0 → 0 < length buffer → IsAtEnd s2)
      → IfSome s0 (λ input. OnOk result (length input ≤ longest))
  piece_bounded result count buffer e h c = at_end count buffer (λ input. OnOk result (length input ≤ longest)) e h c (bounded result (omega (arith, u.count)))
    where
      bounded : (result : Result (Unit {0}) (Fault F)) {n : ℕ} → n ≤ longest → OnOk result (n ≤ longest)
      bounded (Ok done) h = h
      bounded (Err fault) h = tt

-- a fault that `?` passes on
pub passed_on : {A E : Type 0} (result : Result A E) (fault : E) → IsErrAnd result (λ e. e ≡ fault) → result ≡ Err fault
passed_on (Ok done) fault is = absurd is
passed_on (Err other) fault is = ap (λ e. Err e) is
