-- The words that proofs of this crate use: of std, of the crates below, and its own.
pub use Rattle.device.specs.Device.{Begins, Rises}
pub use Rattle.labelcore.specs.Lines.{HasNoLF, IsCut, LF, unless_empty, with_ends}
unfoldable pub use Rattle.labelcore.specs.Lines.{ended_lines, lines, open_line}
pub use Rattle.filter.specs.Filter.{CountsFault, Feeds, FilterState, FlushesImagesFirst, FlushesNeither, IsAfter, Sends}
pub use Rattle.filter.specs.Filter.{Stops, Took, fault_of, other, refusal_of, taken}
pub use Rattle.filter.specs.Output.{Channel, Event, Images, Messages, bytes_for, ended_script, flushes, image_of}
pub use Rattle.filter.specs.Output.{is_refusal, line_number, message_of, of_line, outcome_of_item, picture_of, script}
pub use Rattle.filter.specs.Output.{sent, text_of}
unfoldable pub use Rattle.filter.specs.Output.{drawn_symbols, events_after, outcome, status_of}
pub use Rattle.filter.specs.Symbol.{Symbol, linear_symbol, quiet_zone}
unfoldable pub use Rattle.filter.specs.Symbol.{qr_modules, symbol_of}
pub use Rattle.filter.specs.declared.status.RunFault.{RunFault}
pub use Rattle.filter.specs.declared.status.RunFault.TheVariants.{Read, Spent, WriteMessages, WriteOut}
pub use Rattle.filter.specs.declared.status.Status.{Status}
pub use Rattle.filter.specs.declared.status.Status.TheVariants.{Clean, Refused}
pub use Rattle.labelcore.specs.HeldLine.{held_line}
unfoldable pub use Rattle.labelcore.specs.HeldLine.{line_limit}
pub use Rattle.labelcore.specs.LineItem.{Outcome, Request, drawn, item, outcome_of, refused, skipped}
pub use Rattle.labelcore.specs.OptionValues.{LabelValues, RunValues}
pub use Rattle.labelcore.specs.declared.fault.Fault.{Fault}
pub use Rattle.labelcore.specs.declared.options.Options.{Options}
pub use Rattle.labelcore.specs.declared.symbology.Symbology.TheVariants.{Code128, Ean13, Ean8, Qr, UpcA}
pub use Rattle.std.proofs.Common.{Bool, Err, Fits, List, None, Ok, Option, Result, Some, [], add-zero, ap}
pub use Rattle.std.proofs.Common.{append_assoc, arith, eq-eqb, false, get_or, if◌then◌else◌, inl, inr, length}
pub use Rattle.std.proofs.Common.{length-append, length-take, map, min, refl, rules, subst, sym, take, true, w8}
pub use Rattle.std.proofs.Common.{zero-add, ℕ, ◌*◌, ◌++◌, ◌+◌, ◌-◌, ◌<◌, ◌==◌, ◌^◌, ◌||◌, ◌∙◌, ◌∷◌, ◌≡◌, ◌≢◌, ◌≤◌, ◌⊎◌}
pub use Rattle.std.proofs.Math.Bool.{and-false, or-false}
pub use Rattle.std.proofs.lemmas.Bool.{cases_lt, false≢true, le-ltb}
pub use Rattle.std.proofs.lemmas.List.{append-nil, get_or_past}
pub use Rattle.std.proofs.lemmas.List.Elements.{All-append, All-from_get_or, All-from_recursion, All-map, All-nil}
pub use Rattle.std.proofs.lemmas.List.Elements.{All-push, All-weaker, recursion_from_All}
pub use Rattle.std.proofs.lemmas.Result.{err_from_is_err_and}
pub use Rattle.std.specs.Prelude.{All, IfOk, IfSome, MatchResult, OnOk, nat_lt, ok_or, option_and_then, ⊤}
