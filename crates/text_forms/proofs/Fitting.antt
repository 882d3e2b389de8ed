-- Both ends can be made of what a first line says.
use Rattle.std.proofs.Common.{refl, subst, ◌≡◌, ◌∙◌, ap, sym, ◌==◌, ◌%◌, ◌&&◌, ℕ, Bool, true, false, List, Some, None, Ok, Err, cond, nat_lt, nat_le, if◌then◌else◌, codes}
use Rattle.std.proofs.lemmas.Option.{option_and_then_some}
use Rattle.std.specs.Str.{bytes_eq}
use Rattle.std.specs.Option.{option_and_then}
use Rattle.l2_units.specs.declared.profile.Profile.{Profile}
use Rattle.set_events.specs.Config.{fault_of}
use Rattle.set_events.specs.Method.{is_method}
use Rattle.set_events.specs.declared.config.Method.{Method}
use Rattle.text_base.specs.Figures.{number_of, number_below}
use Rattle.text_forms.specs.declared.mistake.Mistake.TheVariants.{NotSet, OpeningShort}
use Rattle.text_forms.specs.declared.opened.Values.{Values}
use Rattle.text_forms.specs.Words.{Read, Rest, at_place, at_place_or, at_end, behind, behind_name, first_word, judged, value_in}
use Rattle.text_forms.proofs.Forms.{at_place_ok, at_place_or_ok, at_end_ok}
use Rattle.text_forms.specs.Opening.{links, a_method, code_a, code_b, an_sio, a_profile, opening, opening_read, fitting, told_profile, few_links, links_of, met, method_of, code_of, of_orders, sio_of}

-- What each place says of its value.

kept : {A : Type 0} (b : Bool) (x y : A) → cond b (Some x) None ≡ Some y → (b ≡ true) × (x ≡ y)
kept true x y e = (refl, cc)
kept false x y e = absurd cc

links_few : (w : List ℕ) (l : ℕ) → links_of w ≡ Some l → (nat_le 1 l && nat_le l 16) ≡ true
links_few w l e =
    option_and_then_some few_links (option_and_then number_of (value_in (codes "links=") w)) l e (λ n o f.
    let both = kept (nat_le 1 n && nat_le n 16) n l f in ap (λ (x : ℕ). nat_le 1 x && nat_le x 16) (sym both.1) ∙ both.0)

method_met : (p : Profile) (w : List ℕ) (m : Method) → option_and_then (met p) (method_of w) ≡ Some m → is_method p m ≡ true
method_met p w m e =
    option_and_then_some (met p) (method_of w) m e (λ n o f.
    let both = kept (is_method p n) n m f in ap (is_method p) (sym both.1) ∙ both.0)

code_low : (name w : List ℕ) (c : ℕ) → code_of name w ≡ Some c → nat_lt c 16384 ≡ true
code_low name w c e =
    option_and_then_some (number_below 16384) (value_in name w) c e (λ v o f.
    option_and_then_some (λ n. if nat_lt n 16384 then Some n else None) (number_of v) c f (λ n q g.
    let both = kept (nat_lt n 16384) n c g in ap (λ (x : ℕ). nat_lt x 16384) (sym both.1) ∙ both.0))

sio_managed : (w : List ℕ) (s : ℕ) → option_and_then of_orders (sio_of w) ≡ Some s → (s % 16 == 0) ≡ true
sio_managed w s e =
    option_and_then_some of_orders (sio_of w) s e (λ n o f.
    let both = kept (n % 16 == 0) n s f in ap (λ (x : ℕ). x % 16 == 0) (sym both.1) ∙ both.0)

no_fault : (p : Profile) (l own far s : ℕ) (m : Method) → (nat_le 1 l && nat_le l 16) ≡ true → is_method p m ≡ true → nat_lt own 16384 ≡ true
    → nat_lt far 16384 ≡ true → (s % 16 == 0) ≡ true → fault_of p l own far s m ≡ None
no_fault p l own far s m links met own_low far_low managed = rw (links, own_low, far_low, managed, met) refl

fit : (v : Values) → fault_of v.profile v.links v.code_a v.code_b v.sio v.method ≡ None
    → fault_of v.profile v.links v.code_b v.code_a v.sio v.method ≡ None → fitting v ≡ Some v
fit v a b = rw (a, b) refl

-- THE FORM, place by place, of a set of this profile.
module _ (p : Profile) where
  abbrev pub values : (l : ℕ) (m : Method) (a b s : ℕ) → Values
  values l m a b s = record { links = l; method = m; code_a = a; code_b = b; sio = s; profile = p }

  abbrev pub from_profile : (l : ℕ) (m : Method) (a b s : ℕ) → Rest → Read Values
  from_profile l m a b s = at_place_or a_profile p (λ q. at_end (values l m a b s))

  abbrev pub from_sio : (l : ℕ) (m : Method) (a b : ℕ) → Rest → Read Values
  from_sio l m a b = at_place an_sio (λ s. from_profile l m a b s)

  abbrev pub from_b : (l : ℕ) (m : Method) (a : ℕ) → Rest → Read Values
  from_b l m a = at_place code_b (λ b. from_sio l m a b)

  abbrev pub from_a : (l : ℕ) (m : Method) → Rest → Read Values
  from_a l m = at_place code_a (λ a. from_b l m a)

  abbrev pub from_method : ℕ → Rest → Read Values
  from_method l = at_place (a_method p) (λ m. from_a l m)

  opening_fits : (rest : Rest) (v : Values) → opening p rest ≡ Ok v → fitting v ≡ Some v
  opening_fits rest v e =
      let r1 = behind rest in
      let r2 = behind r1 in
      let r3 = behind r2 in
      let r4 = behind r3 in
      let r5 = behind r4 in
      let r6 = behind r5 in
      at_place_ok links from_method rest v e (λ l wl l_is e1.
      at_place_ok (a_method p) (λ m. from_a l m) r1 v e1 (λ m wm m_is e2.
      at_place_ok code_a (λ a. from_b l m a) r2 v e2 (λ a wa a_is e3.
      at_place_ok code_b (λ b. from_sio l m a b) r3 v e3 (λ b wb b_is e4.
      at_place_ok an_sio (λ s. from_profile l m a b s) r4 v e4 (λ s ws s_is e5.
      at_place_or_ok a_profile (λ q. at_end (values l m a b s)) r5 v p e5 (λ q e6.
      let same = at_end_ok (values l m a b s) v r6 e6 in
      let few = links_few wl l l_is in
      let is_met = method_met p wm m m_is in
      let low_a = code_low (codes "a=") wa a a_is in
      let low_b = code_low (codes "b=") wb b b_is in
      let managed = sio_managed ws s s_is in
      subst (λ (x : Values). fitting x ≡ Some x) same (fit (values l m a b s)
      (no_fault p l a b s m few is_met low_a low_b managed) (no_fault p l b a s m few is_met low_b low_a managed))))))))

pub values_fit : (text : List ℕ) (v : Values) → opening_read text ≡ Ok v → fitting v ≡ Some v
values_fit text v e = by (bytes_eq (first_word text) (codes "set")) e
  where
    by : (b : Bool)
        → cond b (opening (told_profile text) (behind_name text OpeningShort)) (Err (record { column = 0; mistake = judged (first_word text) NotSet })) ≡ Ok v
        → fitting v ≡ Some v
    by true g = opening_fits (told_profile text) (behind_name text OpeningShort) v g
    by false g = absurd cc
