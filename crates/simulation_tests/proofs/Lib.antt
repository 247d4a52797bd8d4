pub mod FlowSimLaws
