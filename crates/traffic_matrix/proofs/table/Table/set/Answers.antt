use Rattle.std.proofs.Common.{◌∙◌, refl, sym, arith}
use Rattle.traffic_matrix.proofs.TableLemmas.{demand-put, declared-set}
use Rattle.traffic_matrix.proofs.table.Table.set.Goals as goal

pub returns-clause-put : goal.returns-clause-put
returns-clause-put c =
    let old = c.args.self.now in
    record {
      nodes = refl;
      demands = λ k p w. demand-put old.nodes c.args.step k old.steps.items c.index_mut.result.now c.put.new.self c.args.pair p c.args.demand c.place-place.result c.place-place.ensures.value
          (let size = old.steps.ok.0 in let low = c.requires.step in omega arith) c.index_mut.ensures.value c.requires.pair w c.in_ok-put.ensures;
      declared = λ p w. declared-set old.nodes old.declared.items c.args.pair p c.place-place.result c.place-place.ensures.value
          (sym old.declared.ok.0 ∙ old.pairs) c.requires.pair w;
    }
