pub mod Standing
pub mod InstructionEquations
pub mod FunctionEquations
