use Rattle.std.proofs.Common.{◌∙◌, sym, ap, subst, arith, length}
use Rattle.std.proofs.lemmas.List.{length-set}
use Rattle.cert_text.specs.Fits.{AreWords, IsWord}
use Rattle.block_reader.proofs.Placing.{always, first_in_place, number_line_in}
use Rattle.block_reader.proofs.block_lines.number_line.Goals as goal

pub returns-clause-fits : goal.returns-clause-fits
returns-clause-fits g c =
    let one = first_in_place c.args.list.now c.set.new.self c.in_ok-first.first c.requires c.set.ensures in
    let word : IsWord c.in_ok-first.first = omega arith in
    always c.end_line.result (record {
      count = c.in_ok-numbers.ensures.count ∙ ap length c.set.ensures ∙ length-set c.args.list.now 0 c.in_ok-first.first;
      words = c.in_ok-numbers.ensures.words (subst AreWords (sym one) (word, tt));
    })

pub returns-clause-takes : goal.returns-clause-takes
returns-clause-takes g c =
    let one = first_in_place c.args.list.now c.set.new.self c.in_ok-first.first c.requires c.set.ensures in
    let first = c.in_ok-first.ensures.takes in
    let others = c.in_ok-numbers.ensures.takes in
    let end = c.end_line.ensures.takes in
    record {
      told = λ t. first.told (others.told (end.told t));
      reads = λ t.
          let t2 = end.told t in
          let t1 = others.told t2 in
          number_line_in _ _ c.in_ok-first.first _ _ _ _ _ c.end_line.result _ (ap length c.set.ensures ∙ length-set c.args.list.now 0 c.in_ok-first.first) (first.reads t1) one (others.reads t2) (end.reads t);
    }
