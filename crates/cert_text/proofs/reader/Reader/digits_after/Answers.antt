use Rattle.std.proofs.Common.{sym, ◌∙◌}
use Rattle.cert_text.proofs.Digits.{digits_over, digits_more, digits_stop, digits_end}
use Rattle.cert_text.proofs.reader.Reader.digits_after.Goals as goal

pub returns-in-None-clause-takes : goal.returns-in-None-clause-takes
returns-in-None-clause-takes g c = record {
  told = λ t. (c.digits.invariant (c.peek.ensures.told t)).0;
  reads = λ t.
      let so_far = c.digits.invariant (c.peek.ensures.told t) in
      rw c.fault.ensures (sym so_far.1 ∙ digits_over _ _ _ c.in-Some.b
      (sym c.in-Some.is ∙ c.peek.ensures.byte t) (sym c.is_ascii_digit.ensures.value ∙ c.if-not-is_ascii_digit.false) c.in-None.ensures);
}

pub returns-then-not-is_ascii_digit-clause-takes : goal.returns-then-not-is_ascii_digit-clause-takes
returns-then-not-is_ascii_digit-clause-takes g c = record {
  told = λ t. (c.digits.invariant (c.peek.ensures.told t)).0;
  reads = λ t.
      let so_far = c.digits.invariant (c.peek.ensures.told t) in
      let same = c.peek.ensures.same t in
      rw same (sym so_far.1 ∙ digits_stop _ _ _ c.in-Some.b
      (sym c.in-Some.is ∙ c.peek.ensures.byte t) (sym c.is_ascii_digit.ensures.value ∙ c.if-not-is_ascii_digit.true));
}

pub returns-in_default-clause-takes : goal.returns-in_default-clause-takes
returns-in_default-clause-takes g c = record {
  told = λ t. (c.digits.invariant (c.peek.ensures.told t)).0;
  reads = λ t.
      let so_far = c.digits.invariant (c.peek.ensures.told t) in
      let same = c.peek.ensures.same t in
      rw same (sym so_far.1 ∙ digits_end _ _ _ (sym c.in_default.is ∙ c.peek.ensures.byte t));
}

pub digits-preserved : goal.digits-preserved
digits-preserved g c = λ t.
    let told = c.advance.ensures.told t in
    let so_far = c.digits.invariant (c.peek.ensures.told told) in
    let more = digits_more c.digits.self.line c.digits.value _ c.in-Some.b
    (sym c.in-Some.is ∙ c.peek.ensures.byte told) (sym c.is_ascii_digit.ensures.value ∙ c.if-not-is_ascii_digit.false) c.in-Some-with_digit.ensures.0 in
    (so_far.0, rw (c.in-Some-with_digit.ensures.1, c.advance.ensures.rest t, c.peek.ensures.same told) (sym more ∙ so_far.1))
