mod Examples
mod NamedLaws
mod OneKindLaws
mod ParsedLaws
mod ProgramLaws
mod RuleLaws
