-- How the parser goes over the tokens. It serves private functions alone: nobody has to believe it.
pub mod Parsers
pub mod Tables
pub mod FunctionValues
pub mod ReadExpressions
pub mod InnerExpr
pub mod ReadDeclarations
pub mod ReadStatements
pub mod InnerStatements
pub mod ReadPrograms
