use Rattle.text_parser.proofs.declaring.declare.Goals as goal

pub declare_struct-requires-clause-judged : goal.declare_struct-requires-clause-judged
declare_struct-requires-clause-judged c = c.requires

pub declare_trait-requires-clause-judged : goal.declare_trait-requires-clause-judged
declare_trait-requires-clause-judged c = c.requires

pub declare_impl-requires-clause-judged : goal.declare_impl-requires-clause-judged
declare_impl-requires-clause-judged c = c.requires

pub declare_question-requires-clause-judged : goal.declare_question-requires-clause-judged
declare_question-requires-clause-judged c = c.requires

pub declare_question-requires-in-Refute-clause-judged : goal.declare_question-requires-in-Refute-clause-judged
declare_question-requires-in-Refute-clause-judged c = c.requires

pub new-requires-clause-agrees : goal.new-requires-clause-agrees
new-requires-clause-agrees c = c.requires.agrees

pub new-requires-clause-few : goal.new-requires-clause-few
new-requires-clause-few c = c.requires.few

pub new-requires-in-Refute-clause-agrees : goal.new-requires-in-Refute-clause-agrees
new-requires-in-Refute-clause-agrees c = c.requires.agrees

pub new-requires-in-Refute-clause-few : goal.new-requires-in-Refute-clause-few
new-requires-in-Refute-clause-few c = c.requires.few

pub returns-in-Struct-clause-added : goal.returns-in-Struct-clause-added
returns-in-Struct-clause-added c = c.declare_struct.ensures.added

pub returns-in-Struct-clause-agrees : goal.returns-in-Struct-clause-agrees
returns-in-Struct-clause-agrees c = c.declare_struct.ensures.agrees

pub returns-in-Trait-clause-added : goal.returns-in-Trait-clause-added
returns-in-Trait-clause-added c = c.declare_trait.ensures.added

pub returns-in-Trait-clause-agrees : goal.returns-in-Trait-clause-agrees
returns-in-Trait-clause-agrees c = c.declare_trait.ensures.agrees

pub returns-in-Impl-clause-added : goal.returns-in-Impl-clause-added
returns-in-Impl-clause-added c = c.declare_impl.ensures.added

pub returns-in-Impl-clause-agrees : goal.returns-in-Impl-clause-agrees
returns-in-Impl-clause-agrees c = c.declare_impl.ensures.agrees

pub returns-in-Prove-clause-added : goal.returns-in-Prove-clause-added
returns-in-Prove-clause-added c = c.declare_question.ensures.added

pub returns-in-Prove-clause-agrees : goal.returns-in-Prove-clause-agrees
returns-in-Prove-clause-agrees c = c.declare_question.ensures.agrees

pub returns-in-Refute-clause-added : goal.returns-in-Refute-clause-added
returns-in-Refute-clause-added c = c.declare_question-in-Refute.ensures.added

pub returns-in-Refute-clause-agrees : goal.returns-in-Refute-clause-agrees
returns-in-Refute-clause-agrees c = c.declare_question-in-Refute.ensures.agrees
