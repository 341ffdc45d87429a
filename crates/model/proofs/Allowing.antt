-- An act passes its tests exactly when it is allowed. Assumes nothing.
use Rattle.std.proofs.Common.{◌≡◌, ℕ, ◌^◌, ◌<◌, Bool, true, false, not, ◌&&◌, ◌||◌, ltb, leb, is_ok, Some, None, Decides, Option, Result, sym, refl, ap, ◌∙◌, subst, ⊎_elim}
use Rattle.std.specs.List.{slice_get}
use Rattle.std.proofs.lemmas.Bool.{and_parts, and_from, leb-true, le-leb, ltb-true, lt-ltb, cases_lt, true≢false}
use Rattle.policy.specs.Kinds.{changes}
use Rattle.policy.specs.Masks.{bit, inside, apart}
use Rattle.policy.specs.Rules.{meets}
use Rattle.policy.specs.Refusals.{answered}
use Rattle.policy.specs.declared.refusal.Refusal.{Refusal}
use Rattle.policy.specs.declared.rule.Rule.{Rule}
use Rattle.policy.proofs.Bits.{bit_past, inside_decides, apart_decides, below_from_bits, own_power}
use Rattle.policy.proofs.Passing.{Passing, passing, none_fails}
use Rattle.policy.proofs.Policies.{KeptBy, kept_by}
use Rattle.roster.specs.Holdings.{mask}
use Rattle.model.specs.Acts.{Allowed, act_tests, act_refusal, refusal_by, meets_at}
use Rattle.model.specs.States.{State}
use Rattle.model.specs.declared.call.OfficerAct.{OfficerAct}
use Rattle.model.proofs.Every.{every_holds, every_from}
use Rattle.model.proofs.WellFormed.{WellFormed, bit_held}

by_part : (here there : Bool) → (not here || there) ≡ true → here ≡ true → there ≡ true
by_part true there e h = e
by_part false there e h = absurd (true≢false (sym h))

part_by : (here there : Bool) → (here ≡ true → there ≡ true) → (not here || there) ≡ true
part_by true there h = h refl
part_by false there h = refl

module _ (st : State) (fine : WellFormed st) (act : OfficerAct) where
  module _ (rule : Rule) (is_rule : slice_get st.policy.rules act.rule ≡ Some rule) where
    abbrev own : KeptBy st.policy.roles st.policy.slots rule
    own = kept_by st.policy.roles st.policy.slots rule (fine.rules act.rule rule is_rule)

    need_held : (slot : ℕ) → meets rule (mask st.held act.target slot) ≡ true → (role : ℕ) → bit rule.need role ≡ true → st.held act.target slot role ≡ true
    need_held slot e role h =
        let m = mask st.held act.target slot in
        let parts = and_parts (inside rule.need m) (apart rule.bar m) e in
        sym (bit_held st fine act.target slot role) ∙ (inside_decides st.policy.roles rule.need m own.need).0 parts.0 role h

    bar_lacked : (slot : ℕ) → meets rule (mask st.held act.target slot) ≡ true → (role : ℕ) → bit rule.bar role ≡ true → st.held act.target slot role ≡ false
    bar_lacked slot e role h =
        let m = mask st.held act.target slot in
        let parts = and_parts (inside rule.need m) (apart rule.bar m) e in
        sym (bit_held st fine act.target slot role) ∙ (apart_decides st.policy.roles rule.bar m own.bar).0 parts.1 role h

    meets_from : (slot : ℕ) → ((role : ℕ) → bit rule.need role ≡ true → st.held act.target slot role ≡ true)
        → ((role : ℕ) → bit rule.bar role ≡ true → st.held act.target slot role ≡ false) → meets rule (mask st.held act.target slot) ≡ true
    meets_from slot holds lacks =
        let m = mask st.held act.target slot in
        and_from (inside rule.need m) (apart rule.bar m)
        ((inside_decides st.policy.roles rule.need m own.need).1 (λ role h. bit_held st fine act.target slot role ∙ holds role h))
        ((apart_decides st.policy.roles rule.bar m own.bar).1 (λ role h. bit_held st fine act.target slot role ∙ lacks role h))

    slot_below : act.part < 2 ^ st.policy.slots → (slot : ℕ) → bit act.part slot ≡ true → slot < st.policy.slots
    slot_below small slot h =
        ⊎_elim (λ l. l) (λ l. absurd (true≢false (sym h ∙ bit_past st.policy.slots act.part slot small l))) (cases_lt slot st.policy.slots)

    allowed_from : Passing (act_tests st rule act) → Allowed st act
    allowed_from passed =
        let persons = st.policy.persons in
        let on_row = leb act.target persons in
        let on_changed = changes rule.kind act.target in
        let p1 = and_parts (leb 1 act.officer) (leb act.officer persons && (on_row && on_changed)) passed.0 in
        let p2 = and_parts (leb act.officer persons) (on_row && on_changed) p1.1 in
        let p3 = and_parts on_row on_changed p2.1 in
        let fit = and_parts (ltb 0 act.part) (ltb act.part (2 ^ st.policy.slots)) passed.1.0 in
        let small = ltb-true act.part (2 ^ st.policy.slots) fit.1 in
        let met = every_holds (meets_at st.held rule act.target act.part) st.policy.slots passed.1.1.1.1.1.1.0 in
        record {
          rule = rule;
          is_rule = is_rule;
          by_person = record { from_one = leb-true 1 act.officer p1.0; to_last = leb-true act.officer persons p2.0 };
          on_row = leb-true act.target persons p3.0;
          on_changed_row = p3.1;
          some_slot = ltb-true 0 act.part fit.0;
          in_slots = slot_below small;
          in_role_schedule = (inside_decides act.part act.part rule.role_schedule (own_power act.part)).0 passed.1.1.0;
          in_rule_schedule = passed.1.1.1.0;
          officer_holds = passed.1.1.1.1.0;
          enabled = passed.1.1.1.1.1.0;
          holds_need = λ slot role h. need_held slot (by_part (bit act.part slot) (meets rule (mask st.held act.target slot)) (met slot (slot_below small slot h)) h) role;
          lacks_bar = λ slot role h. bar_lacked slot (by_part (bit act.part slot) (meets rule (mask st.held act.target slot)) (met slot (slot_below small slot h)) h) role;
        }

  passed_from : (a : Allowed st act) → Passing (act_tests st a.rule act)
  passed_from a =
      let persons = st.policy.persons in
      let rule = a.rule in
      let on_row = leb act.target persons in
      let on_changed = changes rule.kind act.target in
      let slots = st.policy.slots in
      let fit = and_from on_row on_changed (le-leb act.target persons a.on_row) a.on_changed_row in (
        and_from (leb 1 act.officer) (leb act.officer persons && (on_row && on_changed)) (le-leb 1 act.officer a.by_person.from_one)
            (and_from (leb act.officer persons) (on_row && on_changed) (le-leb act.officer persons a.by_person.to_last) fit),
        (
          and_from (ltb 0 act.part) (ltb act.part (2 ^ slots)) (lt-ltb 0 act.part a.some_slot) (lt-ltb act.part (2 ^ slots) (below_from_bits act.part slots act.part (own_power act.part) a.in_slots)),
          (
            (inside_decides act.part act.part rule.role_schedule (own_power act.part)).1 a.in_role_schedule,
            (
              a.in_rule_schedule,
              (
                a.officer_holds,
                (
                  a.enabled,
                  (
                    every_from (meets_at st.held rule act.target act.part) slots
                        (λ slot l. part_by (bit act.part slot) (meets rule (mask st.held act.target slot))
                        (λ h. meets_from rule a.is_rule slot (λ role. a.holds_need slot role h) (λ role. a.lacks_bar slot role h))),
                    tt,
                  ),
                ),
              ),
            ),
          ),
        ),
      )

  by_found : (found : Option Rule) → slice_get st.policy.rules act.rule ≡ found → None ≡ refusal_by found st act → Allowed st act
  by_found None e none = absurd (true≢false (cc))
  by_found (Some rule) e none = allowed_from rule e (passing (act_tests st rule act) none)

  -- no refusal: allowed
  pub allowed_if : None ≡ act_refusal st act → Allowed st act
  allowed_if none = by_found (slice_get st.policy.rules act.rule) refl none

  -- allowed: no refusal
  pub goes_if : Allowed st act → None ≡ act_refusal st act
  goes_if a =
      none_fails (act_tests st a.rule act) (passed_from a)
      ∙ ap (λ (found : Option Rule). refusal_by found st act) (sym a.is_rule)

  by_answer : (found : Option Refusal) → act_refusal st act ≡ found → Decides (is_ok (answered found (tt {0}))) (Allowed st act)
  by_answer None e = (λ h. allowed_if (sym e), λ a. refl)
  by_answer (Some refusal) e = (λ h. absurd (true≢false (sym h)), λ a. absurd (true≢false (cc (goes_if a))))

  -- an answer that follows the tests tells whether the act is allowed
  pub told_allowed : (r : Result (Unit {0}) Refusal) → r ≡ answered (act_refusal st act) (tt {0}) → Decides (is_ok r) (Allowed st act)
  told_allowed r e =
      subst (λ (x : Result (Unit {0}) Refusal). Decides (is_ok x) (Allowed st act)) (sym e)
      (by_answer (act_refusal st act) refl)
