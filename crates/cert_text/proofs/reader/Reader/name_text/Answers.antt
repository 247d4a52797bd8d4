use Rattle.std.proofs.Common.{◌≡◌, ◌≢◌, sym, ◌∙◌, length, rules}
use Rattle.std.specs.Prelude.{string_bytes}
use Rattle.cert_text.proofs.Digits.{letters_more, longer, name_long, name_more, name_encoded, name_stop, name_end}
use Rattle.cert_text.proofs.reader.Reader.name_text.Goals as goal

pub returns-then-len-eq32-clause-takes : goal.returns-then-len-eq32-clause-takes
returns-then-len-eq32-clause-takes g c = record {
  told = λ t. (c.loop-b.invariant.2 (c.peek.ensures.told t)).0;
  reads = λ t.
      let so_far = c.loop-b.invariant.2 (c.peek.ensures.told t) in
      rw c.fault.ensures (sym so_far.1 ∙ name_long _ _ _ c.in-Some.b
      (sym c.in-Some.is ∙ c.peek.ensures.byte t) (sym c.is_name_byte.ensures ∙ c.if-not-is_name_byte.false) (let full : length (string_bytes c.loop-b.name) ≡ 32 = search rules in full));
}

pub returns-then-not-is_name_byte-clause-takes : goal.returns-then-not-is_name_byte-clause-takes
returns-then-not-is_name_byte-clause-takes g c = record {
  told = λ t. (c.loop-b.invariant.2 (c.peek.ensures.told t)).0;
  reads = λ t.
      let so_far = c.loop-b.invariant.2 (c.peek.ensures.told t) in
      let same = c.peek.ensures.same t in
      rw same (sym so_far.1 ∙ name_stop _ _ _ c.in-Some.b
      (sym c.in-Some.is ∙ c.peek.ensures.byte t) (sym c.is_name_byte.ensures ∙ c.if-not-is_name_byte.true));
}

pub returns-clause-takes : goal.returns-clause-takes
returns-clause-takes g c = record {
  told = λ t. (c.loop-b.invariant.2 (c.peek.ensures.told t)).0;
  reads = λ t.
      let so_far = c.loop-b.invariant.2 (c.peek.ensures.told t) in
      let same = c.peek.ensures.same t in
      rw same (sym so_far.1 ∙ name_end _ _ _ (sym c.in_default.is ∙ c.peek.ensures.byte t));
}

pub loop-b-preserved : goal.loop-b-preserved
loop-b-preserved g c =
    let so_far = c.loop-b.invariant in
    let front = string_bytes c.loop-b.name in
    let letter = sym c.is_name_byte.ensures ∙ c.if-not-is_name_byte.false in
    let other : length front ≢ 32 = search rules in
    let put = rw (name_encoded c.in-Some.b letter) at c.in_ok-push.ensures.bytes in
    rw put (
      longer front c.in-Some.b so_far.0 other,
      letters_more front c.in-Some.b so_far.1 letter,
      λ t.
          let told = c.advance.ensures.told t in
          let read = so_far.2 (c.peek.ensures.told told) in
          let more = name_more c.loop-b.self.line front _ c.in-Some.b (sym c.in-Some.is ∙ c.peek.ensures.byte told) letter other in
          (read.0, rw (c.advance.ensures.rest t, c.peek.ensures.same told) (sym more ∙ read.1)),
    )
