use Rattle.std.proofs.Common.{[]}
use Rattle.std.proofs.lemmas.List.Elements.{All-nil, All-same}
use Rattle.experiment.specs.SchemeTexts.{IsSchemeText}
use Rattle.experiment.proofs.scheme_texts.shared_texts.Goals as goal
use Rattle.experiment.proofs.scheme_texts.shared_texts.Goals.{then-input-eq-FLOW_PATHS+then-has_flow+then-has_least+in_ok-add_flow_texts, else-input-eq-FLOW_PATHS}
use Rattle.experiment.proofs.scheme_texts.shared_texts.Goals.{then-has_adapted+then-has_mixed+in_ok-add_tree_texts, else-has_adapted}

pub add_tree_texts-requires-clause-texts : goal.add_tree_texts-requires-clause-texts
add_tree_texts-requires-clause-texts c =
    elim c.if-input-eq-FLOW_PATHS.branch [
      | then-input-eq-FLOW_PATHS+then-has_flow+then-has_least+in_ok-add_flow_texts w ↦ rw w.texts-is w.in_ok-add_flow_texts.ensures.texts
      | else-input-eq-FLOW_PATHS w ↦
          rw w.texts-is (All-same (IsSchemeText c.args.input.now) c.new-texts.result.items [] c.new-texts.ensures.items (All-nil (IsSchemeText c.args.input.now)))
    ]

pub returns : goal.returns
returns c = record {
  texts = elim c.if-has_adapted.branch [
    | then-has_adapted+then-has_mixed+in_ok-add_tree_texts w ↦ rw w.texts-is w.in_ok-add_tree_texts.ensures.texts
    | else-has_adapted w ↦
        rw w.texts-is
        (elim c.if-input-eq-FLOW_PATHS.branch [
          | then-input-eq-FLOW_PATHS+then-has_flow+then-has_least+in_ok-add_flow_texts v ↦ rw v.texts-is v.in_ok-add_flow_texts.ensures.texts
          | else-input-eq-FLOW_PATHS v ↦
              rw v.texts-is (All-same (IsSchemeText c.args.input.now) c.new-texts.result.items [] c.new-texts.ensures.items (All-nil (IsSchemeText c.args.input.now)))
        ])
  ];
}
