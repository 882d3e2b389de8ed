-- One direction of a link, as the counts of both its ends tell it, whatever their error control.
use Rattle.std.proofs.Common.{refl, arith, ◌≡◌, ◌∙◌, ap, subst, sym, ℕ, ◌+◌, ◌-◌, ◌%◌, ◌<◌, ◌≤◌, Bool, true, false, ◌&&◌, ◌==◌, nat_lt, Option, Some, None, List, [], ◌∷◌, ◌++◌, length, take, drop, length-append, length-drop, zero, suc}
use Rattle.std.specs.Prelude.{slice_get, is_some, if◌then◌else◌}
use Rattle.std.specs.Option.{option_to_list}
use Rattle.std.proofs.lemmas.Option.{slice_get_within}
use Rattle.std.proofs.lemmas.List.{take-append-le}
use Rattle.std.proofs.lemmas.Bool.Decides.{nat_tests}
use Rattle.l2_units.specs.declared.unit.Header.{Header}
use Rattle.l2_window.specs.Window.{Profile, WindowState, Sends, fsn_at, last_fsn, distance_to, fsn_count, most_unacked, fsn_before_first}
use Rattle.l2_window.specs.Control.{bsn_of, fsn_after}
use Rattle.l2_window.proofs.Numbers.{below_by, zero_is, from_zero, number_at, number_last, distance_is, bsn_is, next_is, after_next}
use Rattle.l2_window.specs.Line.{Carried}
use Rattle.l2_window.proofs.Line.{IsSent, AreAhead, AreBehind, ahead-low, ahead-lower, ahead-push, ahead-lose, behind-low, behind-raise, behind-push, behind-lose}

-- an end of a link; of its control, the FSN that is expected
pub record Side : Type 0 where
  pub window : WindowState
  pub expected : ℕ
  -- messages in the order in which they were first sent
  pub sent : List ℕ
  -- the far end's messages that were accepted, in order
  pub took : List ℕ
  -- how many of those sent count as acknowledged
  pub acked : ℕ

-- Of a link with this profile:
module _ (p : Profile) where
  -- The sender's unacknowledged messages are the last of those it sent, and its number and the
  -- receiver's are the counts modulo so many as there are numbers; the receiver took a prefix; the units on their way out were
  -- sent at counts between what was taken and what was sent, those on their way back between what
  -- counts as acknowledged and what was taken.
  pub record Way (sender receiver : Side) (out back : List Carried) : Type 0 where
    pub of_sender : sender.window.profile ≡ p
    pub of_receiver : receiver.window.profile ≡ p
    pub few : length sender.window.unacked ≤ most_unacked p
    pub numbered : sender.window.last ≡ (sender.acked + fsn_before_first p) % fsn_count p
    pub kept : sender.window.unacked ≡ drop sender.acked sender.sent
    pub size : sender.acked + length sender.window.unacked ≡ length sender.sent
    pub expected : receiver.expected ≡ length receiver.took % fsn_count p
    pub prefix : receiver.took ≡ take (length receiver.took) sender.sent
    pub forward : AreAhead p (length receiver.took) sender.sent out
    pub backward : AreBehind p sender.acked (length receiver.took) back

  -- at the beginning of a link's life
  pub begin : (s r : Side) → s.window.profile ≡ p → r.window.profile ≡ p → s.window.last ≡ fsn_before_first p → s.window.unacked ≡ [] → s.sent ≡ [] → s.acked ≡ 0 → r.expected ≡ 0 → r.took ≡ [] → Way s r [] []
  begin s r of_s of_r last unacked sent acked expected took = record {
    of_sender = of_s;
    of_receiver = of_r;
    few = omega (arith, ap length unacked);
    numbered = rw (acked, last) (from_zero p);
    kept = rw (unacked, acked, sent) refl;
    size = omega (arith, ap length unacked, ap length sent, acked);
    expected = rw (expected, took) (sym (zero_is p));
    prefix = rw took refl;
    forward = rw (took, sent) (omega arith);
    backward = rw (acked, took) (omega arith);
  }

  -- the i-th element after the first a is the (a + i)-th
  slice_get-drop : (xs : List ℕ) (a i j x : ℕ) → j ≡ a + i → slice_get (drop a xs) i ≡ Some x → slice_get xs j ≡ Some x
  slice_get-drop [] zero i j x e h = absurd (cc)
  slice_get-drop [] (suc a) i j x e h = absurd (cc)
  slice_get-drop (y ∷ xs) zero i j x e h = let f : i ≡ j = omega arith in subst (λ (k : ℕ). slice_get (y ∷ xs) k ≡ Some x) f h
  slice_get-drop (y ∷ xs) (suc a) i zero x e h = absurd (omega arith)
  slice_get-drop (y ∷ xs) (suc a) i (suc j) x e h = slice_get-drop xs a i j x (omega arith) h

  slice_get-last : (xs : List ℕ) (x : ℕ) → slice_get (xs ++ x ∷ []) (length xs) ≡ Some x
  slice_get-last [] x = refl
  slice_get-last (y ∷ xs) x = slice_get-last xs x

  take-get : (xs : List ℕ) (i x : ℕ) → slice_get xs i ≡ Some x → take (suc i) xs ≡ take i xs ++ x ∷ []
  take-get [] i x h = absurd (cc)
  take-get (y ∷ xs) zero x h = let e : y ≡ x = cc in ap (λ (z : ℕ). z ∷ []) e
  take-get (y ∷ xs) (suc i) x h = ap (λ (zs : List ℕ). y ∷ zs) (take-get xs i x h)

  drop-more : (a : ℕ) (xs ys : List ℕ) → a ≤ length xs → drop a (xs ++ ys) ≡ drop a xs ++ ys
  drop-more zero xs ys h = refl
  drop-more (suc a) [] ys h = absurd (omega arith)
  drop-more (suc a) (x ∷ xs) ys h = drop-more a xs ys (omega arith)

  drop-twice : (a b c : ℕ) (xs : List ℕ) → c ≡ a + b → drop b (drop a xs) ≡ drop c xs
  drop-twice zero b c xs e = let f : b ≡ c = omega arith in ap (λ (k : ℕ). drop k xs) f
  drop-twice (suc a) b zero xs e = absurd (omega arith)
  drop-twice (suc a) zero (suc c) [] e = refl
  drop-twice (suc a) (suc b) (suc c) [] e = refl
  drop-twice (suc a) b (suc c) (x ∷ xs) e = drop-twice a b c xs (omega arith)

  append-nil : (xs : List ℕ) → xs ++ [] ≡ xs
  append-nil [] = refl
  append-nil (x ∷ xs) = ap (λ (ys : List ℕ). x ∷ ys) (append-nil xs)

  pub drop-front : (xs ys : List ℕ) → drop (length xs) (xs ++ ys) ≡ ys
  drop-front [] ys = refl
  drop-front (x ∷ xs) ys = drop-front xs ys

  -- the number at a place of a window of this profile
  place_is : (s : Side) → s.window.profile ≡ p → (place : ℕ) → fsn_at s.window place ≡ (s.window.last + 1 + place) % fsn_count p
  place_is s e place = ap (λ (q : Profile). (s.window.last + 1 + place) % fsn_count q) e

  -- what a sending tells: the sender's window gained these messages, and the unit tells the counts
  pub record Tells (old new : Side) (unit : Carried) (more : List ℕ) : Type 0 where
    pub profile : new.window.profile ≡ old.window.profile
    pub last : new.window.last ≡ old.window.last
    pub unacked : new.window.unacked ≡ old.window.unacked ++ more
    pub size : length old.window.unacked + length more ≤ most_unacked p
    pub expected : new.expected ≡ old.expected
    pub bsn : unit.head.bsn ≡ bsn_of old.expected old.window
    pub number : IsSent p (length (old.sent ++ more)) (old.sent ++ more) unit.head.fsn unit.message

  -- the unacknowledged message at this place is sent again
  pub tells-repeat : (s r new : Side) (out back : List Carried) (place m : ℕ) (head : Header) → Way s r out back → slice_get s.window.unacked place ≡ Some m → head.fsn ≡ fsn_at s.window place → new.window ≡ s.window → new.expected ≡ s.expected → head.bsn ≡ bsn_of s.expected s.window → Tells s new (record { head = head; message = Some m }) []
  tells-repeat s r new out back place m head w at fsn window expected bsn =
      let there : slice_get (drop s.acked s.sent) place ≡ Some m = rw (← w.kept) at in
      let within : place < length s.window.unacked = slice_get_within s.window.unacked place m at in
      let same : s.sent ≡ s.sent ++ [] = sym (append-nil s.sent) in
      record {
        profile = ap (λ (v : WindowState). v.profile) window;
        last = ap (λ (v : WindowState). v.last) window;
        unacked = ap (λ (v : WindowState). v.unacked) window ∙ sym (append-nil s.window.unacked);
        size = omega (arith, w.few);
        expected = expected;
        bsn = bsn;
        number = subst (λ (xs : List ℕ). IsSent p (length xs) xs head.fsn (Some m)) same
            (s.acked + place, omega (arith, w.size), omega (arith, w.size, w.few), fsn ∙ place_is s w.of_sender place ∙ number_at p s.window.last s.acked place w.numbered, slice_get-drop s.sent s.acked place (s.acked + place) m refl there);
      }

  -- a message is sent for the first time
  pub tells-new : (s r new : Side) (out back : List Carried) (m : ℕ) (head : Header) → Way s r out back → length s.window.unacked < most_unacked s.window.profile → Sends m s.window new.window → head.fsn ≡ fsn_at s.window (length s.window.unacked) → new.expected ≡ s.expected → head.bsn ≡ bsn_of s.expected s.window → Tells s new (record { head = head; message = Some m }) (m ∷ [])
  tells-new s r new out back m head w few sends fsn expected bsn =
      let less : length s.window.unacked < most_unacked p = rw w.of_sender at few in
      record {
        profile = sends.profile;
        last = sends.last;
        unacked = sends.unacked;
        size = omega (arith, less);
        expected = expected;
        bsn = bsn;
        number = (length s.sent, omega (arith, length-append s.sent (m ∷ [])), omega (arith, length-append s.sent (m ∷ []), less), fsn ∙ place_is s w.of_sender (length s.window.unacked) ∙ number_at p s.window.last s.acked (length s.window.unacked) w.numbered ∙ ap (λ (n : ℕ). n % fsn_count p) w.size, slice_get-last s.sent m);
      }

  -- a FISU is sent
  pub tells-fill : (s r new : Side) (out back : List Carried) (head : Header) → Way s r out back → head.fsn ≡ last_fsn s.window → new.window ≡ s.window → new.expected ≡ s.expected → head.bsn ≡ bsn_of s.expected s.window → Tells s new (record { head = head; message = None }) []
  tells-fill s r new out back head w fsn window expected bsn =
      let same : s.sent ≡ s.sent ++ [] = sym (append-nil s.sent) in
      record {
        profile = ap (λ (v : WindowState). v.profile) window;
        last = ap (λ (v : WindowState). v.last) window;
        unacked = ap (λ (v : WindowState). v.unacked) window ∙ sym (append-nil s.window.unacked);
        size = omega (arith, w.few);
        expected = expected;
        bsn = bsn;
        number = subst (λ (xs : List ℕ). IsSent p (length xs) xs head.fsn None) same (fsn ∙ ap (λ (q : Profile). (s.window.last + length s.window.unacked) % fsn_count q) w.of_sender ∙ number_last p s.window.last s.acked (length s.window.unacked) (length s.sent) w.numbered w.size);
      }

  -- the unit that comes back acknowledges what was accepted when it was sent
  pub record Acknowledges (s r : Side) (unit : Carried) (rest : List Carried) : Type 0 where
    pub count : ℕ
    pub from : s.acked ≤ count
    pub upto : count ≤ length s.sent
    pub bsn : unit.head.bsn ≡ (count + fsn_before_first p) % fsn_count p
    pub distance : s.acked + distance_to s.window unit.head.bsn ≡ count
    pub normal : nat_lt (length s.window.unacked) (distance_to s.window unit.head.bsn) ≡ false
    pub backward : AreBehind p count (length r.took) rest

  normal_if : (m n : ℕ) → n ≤ m → nat_lt m n ≡ false
  normal_if m n h = grind (arith, nat_tests)

  pub acknowledges : (s r : Side) (out rest : List Carried) (unit : Carried) → Way s r out (unit ∷ rest) → Acknowledges s r unit rest
  acknowledges s r out rest unit w =
      let c = w.backward.0 in
      let low : s.acked ≤ c = w.backward.1 in
      let is : unit.head.bsn ≡ (c + fsn_before_first p) % fsn_count p = w.backward.2 in
      let others : AreBehind p c (length r.took) rest = w.backward.3 in
      let all : length r.took ≤ length s.sent = ahead-low p (length r.took) s.sent out w.forward in
      let top : c ≤ length r.took = behind-low p c (length r.took) rest others in
      let far : s.acked + distance_to s.window unit.head.bsn ≡ c =
      ap (λ (q : Profile). s.acked + (unit.head.bsn + fsn_count q - s.window.last) % fsn_count q) w.of_sender
      ∙ ap (λ (b : ℕ). s.acked + (b + fsn_count p - s.window.last) % fsn_count p) is
      ∙ distance_is p s.window.last s.acked c (length s.window.unacked) w.numbered low (omega (arith, w.size)) w.few in
      record { count = c; from = low; upto = omega arith; bsn = is; distance = far; normal = normal_if (length s.window.unacked) (distance_to s.window unit.head.bsn) (omega (arith, w.size)); backward = others }

  -- the way on which the unit goes
  pub emit-forward : (s s' r : Side) (out back : List Carried) (unit : Carried) (more : List ℕ) → Way s r out back → Tells s s' unit more → s'.sent ≡ s.sent ++ more → s'.acked ≡ s.acked → Way s' r (out ++ unit ∷ []) back
  emit-forward s s' r out back unit more w t sent acked =
      let all : length r.took ≤ length s.sent = ahead-low p (length r.took) s.sent out w.forward in
      let low : s.acked ≤ length s.sent = omega (arith, w.size) in
      let longer = length-append s.sent more in
      let gained = length-append s.window.unacked more in
      record {
        of_sender = t.profile ∙ w.of_sender;
        of_receiver = w.of_receiver;
        few = omega (arith, ap length t.unacked, t.size, gained);
        numbered = rw acked (t.last ∙ w.numbered);
        kept = rw (acked, sent) (t.unacked ∙ ap (λ (xs : List ℕ). xs ++ more) w.kept ∙ sym (drop-more s.acked s.sent more low));
        size = omega (arith, ap length t.unacked, ap length sent, w.size);
        expected = w.expected;
        prefix = rw sent (w.prefix ∙ sym (take-append-le (length r.took) s.sent more all));
        forward = rw sent (ahead-push p (length r.took) s.sent more out unit w.forward t.number);
        backward = rw acked w.backward;
      }

  -- the way back, of which the unit carries the BSN
  pub emit-backward : (s s' r : Side) (out back : List Carried) (unit : Carried) (more : List ℕ) → Way r s back out → Tells s s' unit more → s'.took ≡ s.took → Way r s' back (out ++ unit ∷ [])
  emit-backward s s' r out back unit more w t took =
      let bsn : unit.head.bsn ≡ (length s.took + fsn_before_first p) % fsn_count p = t.bsn ∙ ap (λ (q : Profile). (s.expected + fsn_before_first q) % fsn_count q) w.of_receiver ∙ bsn_is p s.expected (length s.took) w.expected in
      record {
        of_sender = w.of_sender;
        of_receiver = t.profile ∙ w.of_receiver;
        few = w.few;
        numbered = w.numbered;
        kept = w.kept;
        size = w.size;
        expected = rw took (t.expected ∙ w.expected);
        prefix = rw took w.prefix;
        forward = rw took w.forward;
        backward = rw took (behind-push p r.acked (length s.took) out unit w.backward bsn);
      }

  -- what was accepted, after one more unit
  record After (sent took : List ℕ) (expected : ℕ) (rest : List Carried) : Type 0 where
    is_next : expected ≡ length took % fsn_count p
    is_prefix : took ≡ take (length took) sent
    ahead : AreAhead p (length took) sent rest

  nothing_more : (sent took took' : List ℕ) (expected expected' high : ℕ) (rest : List Carried) → expected ≡ length took % fsn_count p → took ≡ take (length took) sent → length took ≤ high → AreAhead p high sent rest → expected' ≡ expected → took' ≡ took ++ [] → After sent took' expected' rest
  nothing_more sent took took' expected expected' high rest next prefix above ahead e f =
      let g : took' ≡ took = f ∙ append-nil took in
      record { is_next = rw (e, g) next; is_prefix = rw g prefix; ahead = rw g (ahead-lower p high (length took) sent rest above ahead) }

  one_more : (sent took took' : List ℕ) (expected' high place m : ℕ) (rest : List Carried) → took ≡ take (length took) sent → place ≡ length took → slice_get sent place ≡ Some m → place < high → expected' ≡ (place + 1) % fsn_count p → AreAhead p high sent rest → took' ≡ took ++ m ∷ [] → After sent took' expected' rest
  one_more sent took took' expected' high place m rest prefix here there below next ahead f =
      let n : length took' ≡ suc (length took) = omega (arith, ap length f, length-append took (m ∷ [])) in
      let at : slice_get sent (length took) ≡ Some m = rw (← here) there in
      let same : place + 1 ≡ length took' = omega arith in
      record {
        is_next = next ∙ ap (λ (k : ℕ). k % fsn_count p) same;
        is_prefix = rw n (f ∙ ap (λ (xs : List ℕ). xs ++ m ∷ []) prefix ∙ sym (take-get sent (length took) m at));
        ahead = rw n (ahead-lower p high (suc (length took)) sent rest (omega arith) ahead);
      }

  -- an MSU is accepted exactly where it is the next message
  after : (sent took took' : List ℕ) (fsn expected expected' high : ℕ) (message : Option ℕ) (current accept : Bool) (rest : List Carried) → expected ≡ length took % fsn_count p → took ≡ take (length took) sent → length took ≤ high → high ≤ length sent → length sent ≤ length took + most_unacked p → IsSent p high sent fsn message → AreAhead p high sent rest → accept ≡ (current && (is_some message && (fsn == expected))) → expected' ≡ (if accept then (fsn + 1) % fsn_count p else expected) → took' ≡ took ++ (if accept then option_to_list message else []) → After sent took' expected' rest
  after sent took took' fsn expected expected' high None true true rest next prefix above top few is ahead e f g = absurd (cc)
  after sent took took' fsn expected expected' high message false true rest next prefix above top few is ahead e f g = absurd (cc)
  after sent took took' fsn expected expected' high message current false rest next prefix above top few is ahead e f g = nothing_more sent took took' expected expected' high rest next prefix above ahead f g
  after sent took took' fsn expected expected' high (Some m) true true rest next prefix above top few (place, below, near, number, there) ahead e f g =
      let same : fsn ≡ expected = grind (arith, nat_tests) in
      let here : place ≡ length took = next_is p expected (length took) place high (sym number ∙ same) next below near above (omega (arith, top, few)) in
      one_more sent took took' expected' high place m rest prefix here there below (f ∙ after_next p fsn place number) ahead g

  -- the unit acknowledges so many at the end that hears it
  pub arrive-back : (f f' n : Side) (out rest : List Carried) (unit : Carried) (acked : ℕ) → Way f n out (unit ∷ rest) → acked ≡ distance_to f.window unit.head.bsn → f'.window ≡ record f.window { last = unit.head.bsn; unacked = drop acked f.window.unacked } → f'.sent ≡ f.sent → f'.acked ≡ f.acked + acked → Way f' n out rest
  arrive-back f f' n out rest unit acked w d v sent more =
      let a = acknowledges f n out rest unit w in
      let c : f'.acked ≡ a.count = omega (arith, a.distance, d, more) in
      let last : f'.window.last ≡ unit.head.bsn = ap (λ (x : WindowState). x.last) v in
      let list : f'.window.unacked ≡ drop acked f.window.unacked = ap (λ (x : WindowState). x.unacked) v in
      let left : length f'.window.unacked ≡ length f.window.unacked - acked = ap length list ∙ length-drop acked f.window.unacked in
      record {
        of_sender = ap (λ (x : WindowState). x.profile) v ∙ w.of_sender;
        of_receiver = w.of_receiver;
        few = omega (arith, w.few);
        numbered = last ∙ a.bsn ∙ ap (λ (k : ℕ). (k + fsn_before_first p) % fsn_count p) (sym c);
        kept = rw sent (list ∙ ap (λ (xs : List ℕ). drop acked xs) w.kept ∙ drop-twice f.acked acked f'.acked f.sent more);
        size = omega (arith, ap length sent, w.size, a.upto);
        expected = w.expected;
        prefix = rw sent w.prefix;
        forward = rw sent w.forward;
        backward = rw c a.backward;
      }

  -- its message is accepted, or not
  pub arrive-forward : (n f f' : Side) (rest back : List Carried) (unit : Carried) (current accept : Bool) → Way n f (unit ∷ rest) back → f'.window.profile ≡ f.window.profile → accept ≡ (current && (is_some unit.message && (unit.head.fsn == f.expected))) → f'.expected ≡ (if accept then fsn_after unit.head.fsn f.window else f.expected) → f'.took ≡ f.took ++ (if accept then option_to_list unit.message else []) → Way n f' rest back
  arrive-forward n f f' rest back unit current accept w profile accepts expected took =
      let high = w.forward.0 in
      let above : length f.took ≤ high = w.forward.1 in
      let is : IsSent p high n.sent unit.head.fsn unit.message = w.forward.2 in
      let ahead : AreAhead p high n.sent rest = w.forward.3 in
      let top : high ≤ length n.sent = ahead-low p high n.sent rest ahead in
      let low : n.acked ≤ length f.took = behind-low p n.acked (length f.took) back w.backward in
      let few : length n.sent ≤ length f.took + most_unacked p = omega (arith, w.size, w.few) in
      let next : f'.expected ≡ (if accept then (unit.head.fsn + 1) % fsn_count p else f.expected) = expected ∙ ap (λ (q : Profile). if accept then (unit.head.fsn + 1) % fsn_count q else f.expected) w.of_receiver in
      let z = after n.sent f.took f'.took unit.head.fsn f.expected f'.expected high unit.message current accept rest w.expected w.prefix above top few is ahead accepts next took in
      let more : length f.took ≤ length f'.took = omega (arith, ap length took, length-append f.took (if accept then option_to_list unit.message else [])) in
      record {
        of_sender = w.of_sender;
        of_receiver = profile ∙ w.of_receiver;
        few = w.few;
        numbered = w.numbered;
        kept = w.kept;
        size = w.size;
        expected = z.is_next;
        prefix = z.is_prefix;
        forward = z.ahead;
        backward = behind-raise p n.acked (length f.took) (length f'.took) back more w.backward;
      }

  -- a message that is only unsent changes nothing
  pub offer-forward : (s s' r : Side) (out back : List Carried) → Way s r out back → s'.window.profile ≡ s.window.profile → s'.window.last ≡ s.window.last → s'.window.unacked ≡ s.window.unacked → s'.sent ≡ s.sent → s'.acked ≡ s.acked → Way s' r out back
  offer-forward s s' r out back w profile last list sent acked = record {
    of_sender = profile ∙ w.of_sender;
    of_receiver = w.of_receiver;
    few = rw list w.few;
    numbered = rw (last, acked) w.numbered;
    kept = rw (list, acked, sent) w.kept;
    size = rw (list, acked, sent) w.size;
    expected = w.expected;
    prefix = rw sent w.prefix;
    forward = rw sent w.forward;
    backward = rw acked w.backward;
  }

  pub offer-backward : (s s' r : Side) (out back : List Carried) → Way r s back out → s'.window.profile ≡ s.window.profile → s'.expected ≡ s.expected → s'.took ≡ s.took → Way r s' back out
  offer-backward s s' r out back w profile expected took = record {
    of_sender = w.of_sender;
    of_receiver = profile ∙ w.of_receiver;
    few = w.few;
    numbered = w.numbered;
    kept = w.kept;
    size = w.size;
    expected = rw (expected, took) w.expected;
    prefix = rw took w.prefix;
    forward = rw took w.forward;
    backward = rw took w.backward;
  }

  -- the unit that comes has an FSN of the profile
  pub sent_below : (low : ℕ) (sent : List ℕ) (unit : Carried) (rest : List Carried) → AreAhead p low sent (unit ∷ rest) → unit.head.fsn < fsn_count p
  sent_below low sent unit rest ahead = go unit.message ahead.2
    where
      go : (message : Option ℕ) → IsSent p ahead.0 sent unit.head.fsn message → unit.head.fsn < fsn_count p
      go None is = below_by p unit.head.fsn (ahead.0 + fsn_before_first p) is
      go (Some m) (place, under, near, number, there) = below_by p unit.head.fsn place number

  -- a unit is lost on its way out, or on its way back
  pub lose-forward : (s r : Side) (before : List Carried) (unit : Carried) (after back : List Carried) → Way s r (before ++ unit ∷ after) back → Way s r (before ++ after) back
  lose-forward s r before unit after back w = record {
    of_sender = w.of_sender;
    of_receiver = w.of_receiver;
    few = w.few;
    numbered = w.numbered;
    kept = w.kept;
    size = w.size;
    expected = w.expected;
    prefix = w.prefix;
    forward = ahead-lose p (length r.took) s.sent before unit after w.forward;
    backward = w.backward;
  }

  pub lose-backward : (s r : Side) (out before : List Carried) (unit : Carried) (after : List Carried) → Way s r out (before ++ unit ∷ after) → Way s r out (before ++ after)
  lose-backward s r out before unit after w = record {
    of_sender = w.of_sender;
    of_receiver = w.of_receiver;
    few = w.few;
    numbered = w.numbered;
    kept = w.kept;
    size = w.size;
    expected = w.expected;
    prefix = w.prefix;
    forward = w.forward;
    backward = behind-lose p s.acked (length r.took) before unit after w.backward;
  }
