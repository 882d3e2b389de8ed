-- The numbers of fates, reports and refusals tell them: by cases, and by arithmetic on where each part stands in the
-- number.
use Rattle.std.proofs.Common.{arith, refl, ap, ◌≡◌, ◌∙◌, ◌<◌, ◌^◌, ◌+◌, ◌*◌, ◌/◌, ◌%◌, ◌==◌, ℕ, Bool, true, false, Option, Some, None}
use Rattle.l2_units.specs.declared.cause.ControlFault.{ControlFault}
use Rattle.l2_units.specs.declared.status.Status.{Status}
use Rattle.l2_units.specs.declared.unit.Unit.{Unit as SignalUnit}
use Rattle.l2_units.specs.declared.unit.Unit.TheVariants.{Fisu, Lssu, Msu}
use Rattle.l2_units.specs.Numbers.{status_number}
use Rattle.set_events.specs.Numbers.{refusal_number}
use Rattle.set_events.specs.declared.answer.DiscardCause.{DiscardCause}
use Rattle.set_events.specs.declared.answer.Fate.{Fate}
use Rattle.set_events.specs.declared.answer.Fate.TheVariants.{Waiting, Unacked, Acked, Held, Parked, Back, Discarded}
use Rattle.set_events.specs.declared.answer.Refusal.{Refusal}
use Rattle.set_events.specs.declared.answer.Report.{Report}
use Rattle.set_events.specs.declared.answer.Took.{Took}
use Rattle.set_history.specs.Forms.{unit_form, fate_number, fate_in, fate_told, took_number, took_told, fault_number, fault_told, bit, report_number, report_told, refusal_told}
use Rattle.set_history.specs.Written.{IsFateKept}

-- a fate
placed : (place above : ℕ) → place < 8 → above < 256 → fate_told (place + 8 * above) ≡ fate_in place above
placed place above p q =
    let low : (place + 8 * above) % 8 ≡ place = omega arith in
    let high : (place + 8 * above) / 8 % 256 ≡ above = omega arith in
    ap (λ (k : ℕ). fate_in k ((place + 8 * above) / 8 % 256)) low ∙ ap (λ (k : ℕ). fate_in place k) high

pub fate_back : (fate : Fate) → IsFateKept fate → fate_told (fate_number fate) ≡ fate
fate_back Parked h = refl
fate_back (Waiting link) h = placed 1 link (omega arith) (omega (arith, h))
fate_back (Unacked link) h = placed 2 link (omega arith) (omega (arith, h))
fate_back (Acked link) h = placed 3 link (omega arith) (omega (arith, h))
fate_back (Held link) h = placed 4 link (omega arith) (omega (arith, h))
fate_back (Back code) h = placed 5 code (omega arith) (omega (arith, h))
fate_back (Discarded DiscardCause.Emergency) h = refl
fate_back (Discarded DiscardCause.Unreasonable) h = refl
fate_back (Discarded DiscardCause.NoAnswer) h = refl

pub fate_small : (fate : Fate) → IsFateKept fate → fate_number fate < 2 ^ 64
fate_small Parked h = omega arith
fate_small (Waiting link) h = omega (arith, h)
fate_small (Unacked link) h = omega (arith, h)
fate_small (Acked link) h = omega (arith, h)
fate_small (Held link) h = omega (arith, h)
fate_small (Back code) h = omega (arith, h)
fate_small (Discarded DiscardCause.Emergency) h = omega arith
fate_small (Discarded DiscardCause.Unreasonable) h = omega arith
fate_small (Discarded DiscardCause.NoAnswer) h = omega arith

-- a report
took_back : (took : Took) → took_told (took_number took) ≡ took
took_back Took.Nothing = refl
took_back Took.Message = refl
took_back Took.Order = refl
took_back Took.Ignored = refl

took_small : (took : Took) → took_number took < 4
took_small Took.Nothing = omega arith
took_small Took.Message = omega arith
took_small Took.Order = omega arith
took_small Took.Ignored = omega arith

fault_back : (fault : Option ControlFault) → fault_told (fault_number fault) ≡ fault
fault_back None = refl
fault_back (Some ControlFault.Bsn) = refl
fault_back (Some ControlFault.Fib) = refl

fault_small : (fault : Option ControlFault) → fault_number fault < 4
fault_small None = omega arith
fault_small (Some ControlFault.Bsn) = omega arith
fault_small (Some ControlFault.Fib) = omega arith

bit_back : (b : Bool) → (bit b == 1) ≡ b
bit_back true = refl
bit_back false = refl

bit_small : (b : Bool) → bit b < 2
bit_small true = omega arith
bit_small false = omega arith

same_report : (a b : Report) → a.acked ≡ b.acked → a.took ≡ b.took → a.asked ≡ b.asked → a.resend ≡ b.resend → a.fault ≡ b.fault → a ≡ b
same_report a b e f g h i =
    ap (λ (x : ℕ). record { acked = x; took = a.took; asked = a.asked; resend = a.resend; fault = a.fault }) e
    ∙ ap (λ (x : Took). record { acked = b.acked; took = x; asked = a.asked; resend = a.resend; fault = a.fault }) f
    ∙ ap (λ (x : Bool). record { acked = b.acked; took = b.took; asked = x; resend = a.resend; fault = a.fault }) g
    ∙ ap (λ (x : Bool). record { acked = b.acked; took = b.took; asked = b.asked; resend = x; fault = a.fault }) h
    ∙ ap (λ (x : Option ControlFault). record { acked = b.acked; took = b.took; asked = b.asked; resend = b.resend; fault = x }) i

-- where the parts of a report stand
module _ (t a r f k : ℕ) (t4 : t < 4) (a2 : a < 2) (r2 : r < 2) (f4 : f < 4) (k16 : k < 2 ^ 16) where
  took_at : (t + 4 * a + 8 * r + 16 * f + 64 * k) % 4 ≡ t
  took_at = omega arith

  asked_at : (t + 4 * a + 8 * r + 16 * f + 64 * k) / 4 % 2 ≡ a
  asked_at = omega arith

  resend_at : (t + 4 * a + 8 * r + 16 * f + 64 * k) / 8 % 2 ≡ r
  resend_at = omega arith

  fault_at : (t + 4 * a + 8 * r + 16 * f + 64 * k) / 16 % 4 ≡ f
  fault_at = omega arith

  acked_at : (t + 4 * a + 8 * r + 16 * f + 64 * k) / 64 % 0x10000 ≡ k
  acked_at = omega arith

  report_at_small : t + 4 * a + 8 * r + 16 * f + 64 * k < 2 ^ 64
  report_at_small = omega arith

module _ (report : Report) (few : report.acked < 2 ^ 16) where
  pub report_back : report_told (report_number report) ≡ report
  report_back =
      let t = took_number report.took in
      let a = bit report.asked in
      let r = bit report.resend in
      let f = fault_number report.fault in
      let t4 = took_small report.took in
      let a2 = bit_small report.asked in
      let r2 = bit_small report.resend in
      let f4 = fault_small report.fault in
      same_report (report_told (report_number report)) report
      (acked_at t a r f report.acked t4 a2 r2 f4 few)
      (ap took_told (took_at t a r f report.acked t4 a2 r2 f4 few) ∙ took_back report.took)
      (ap (λ (k : ℕ). k == 1) (asked_at t a r f report.acked t4 a2 r2 f4 few) ∙ bit_back report.asked)
      (ap (λ (k : ℕ). k == 1) (resend_at t a r f report.acked t4 a2 r2 f4 few) ∙ bit_back report.resend)
      (ap fault_told (fault_at t a r f report.acked t4 a2 r2 f4 few) ∙ fault_back report.fault)

  pub report_small : report_number report < 2 ^ 64
  report_small = report_at_small (took_number report.took) (bit report.asked) (bit report.resend) (fault_number report.fault) report.acked
      (took_small report.took) (bit_small report.asked) (bit_small report.resend) (fault_small report.fault) few

-- a refusal
pub refusal_back : (why : Refusal) → refusal_told (refusal_number why) ≡ why
refusal_back Refusal.TooShort = refl
refusal_back Refusal.TooLong = refl
refusal_back Refusal.Reserved = refl
refusal_back Refusal.StreamFull = refl
refusal_back Refusal.NotUp = refl
refusal_back Refusal.NotDown = refl
refusal_back Refusal.Unsettled = refl
refusal_back Refusal.UnknownNumber = refl
refusal_back Refusal.Nothing = refl
refusal_back Refusal.NoSuchLink = refl
refusal_back Refusal.Finished = refl

-- a unit's form
status_small : (status : Status) → status_number status < 8
status_small Status.OutOfAlignment = omega arith
status_small Status.Normal = omega arith
status_small Status.Emergency = omega arith
status_small Status.OutOfService = omega arith
status_small Status.ProcessorOutage = omega arith
status_small Status.Busy = omega arith
status_small Status.Unassigned6 = omega arith
status_small Status.Unassigned7 = omega arith

pub form_small : (unit : SignalUnit) → unit_form unit < 64
form_small (Fisu head) = omega arith
form_small (Msu head body) = omega arith
form_small (Lssu head status) = omega (arith, status_small status)
