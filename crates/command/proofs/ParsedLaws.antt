-- What a parse that succeeds has checked, by the rules of the command.
use Rattle.std.proofs.lemmas.Option.{IfSome_then}
use Rattle.std.proofs.lemmas.Bool.Decides.{nat_tests}
use Rattle.std.proofs.Common.{◌≡◌, ◌∙◌, ◌<◌, ◌⊎◌, ◌||◌, Err, ap, refl, sym, subst, codes, ℕ}
use Rattle.std.proofs.Common.{zero, suc, Bool, true, false, List, [], ◌∷◌, length, map, Option, Some, None, inl, inr}
use Rattle.std.proofs.Common.{arith}
use Rattle.std.specs.Prelude.{IfSome, Ok, Result, option_map, slice_get, pos}
use Rattle.std.specs.Result.{OnErr, OnOk}
use Rattle.std.specs.List.{All, Any, list_all, slice_index_or}
use Rattle.std.proofs.lemmas.List.{get_or_default}
use Rattle.std.specs.Str.{bytes_eq}
use Rattle.std.specs.Borrow.{Bor}
use Rattle.std.proofs.lemmas.Bool.{cases_lt}
use Rattle.std.proofs.lemmas.Int.{ints}
use Rattle.std.proofs.lemmas.List.Elements.{All-get_or}
use Rattle.std.proofs.lemmas.Slice.Eq.{bytes_eq-Decides}
use Rattle.std.proofs.lemmas.Str.Parse.{digit_from_value}
use Rattle.clap.specs.Lexer.{without_minus}
use Rattle.clap.specs.Values.{Accepts, IsSignedIn, read_as, reading_of}
use Rattle.clap.specs.Built.{BuildsTo, IsAuto, IsParsedFrom, SameRules}
use Rattle.clap.specs.Facts.{Entry, EntryPasses, HasReading, PassesArg, ValuesPass, args_of, groups_of, parser_of}
use Rattle.clap.specs.Matches.{matched_of, one_text}
use Rattle.clap.specs.Walk.{Rule, Text, rule_of}
use Rattle.clap.proofs.CallerLemmas.{entry_by_id}
use Rattle.clap.proofs.SimpleLemmas.{is_false, is_nil, simple_groups}
use Rattle.clap.proofs.WalkLemmas.{both}
use Rattle.clap.specs.Matches.{found_of}
use Rattle.clap.specs.Words.{App, HasKind, Kinds, Row, app_of, built, is_broken, is_buildable, kind_of}
use Rattle.clap.specs.Simple.{has_plain_fields}
use Rattle.clap.specs.declared.builder.command.Command.TheViews.{out-Command}
use Rattle.clap.specs.declared.builder.value_parser.Reading.TheVariants as reading
use Rattle.clap.specs.declared.error.Error.{Error}
use Rattle.clap.specs.declared.error.kind.ErrorKind.TheVariants.{OutOfMemory}
use Rattle.clap.specs.declared.parser.matches.ArgMatches.{ArgMatches}
use Rattle.command.specs.Choosing.{Chooses, Refuses}
use Rattle.command.specs.CommandLine.{command_line, invocation_by, invocation_refused}
use Rattle.command.specs.Private.Checked.{HoldsNumber, HoldsValues, IsNumberIn}
use Rattle.command.specs.declared.arguments.WordsFault.{WordsFault}
use Rattle.command.specs.declared.arguments.WordsFault.TheVariants.{Memory}
use Rattle.command.proofs.OneKindLaws.{IsOneAtMost}
use Rattle.clap.specs.declared.builder.arg.Arg.{Arg}
use Rattle.clap.specs.declared.builder.command.Command.{Command}
use Rattle.clap.specs.declared.builder.value_parser.Reading.{Reading}
use Rattle.clap.specs.declared.builder.value_parser.ValueParser.{ValueParser}
use Rattle.clap.specs.declared.parser.matches.Found.{Found}
use Rattle.clap.specs.declared.parser.matches.MatchedArg.{MatchedArg}

abbrev pub EitherBy : Bool → Type 0 → Type 0 → Type 0
EitherBy true a b = a ⊎ b
EitherBy false a b = b

-- one of the rules with this id has P; it computes at a list that is written out
abbrev pub SomeRule : (Rule → Type 0) → Text → List Rule → Type 0
SomeRule P id [] = ⊥
SomeRule P id (r ∷ rs) = EitherBy (bytes_eq r.id id) (P r) (SomeRule P id rs)

-- an argument of this id whose rule has P makes some rule of the id have it
some_rule : (P : Rule → Type 0) (id : Text) (xs : List Arg)
    → Any (λ a. (bytes_eq a.id.now id ≡ true) × P (rule_of a)) xs → SomeRule P id (map rule_of xs)
some_rule P id [] (k, a, inside, at, holds) = absurd (omega arith)
some_rule P id (x ∷ xs) (zero, a, inside, at, (same, p)) =
    let key : bytes_eq x.id.now id ≡ true = ap (λ (y : Arg). bytes_eq y.id.now id) at ∙ same in
    let holds : P (rule_of x) = subst (λ (y : Arg). P (rule_of y)) (sym at) p in grind (arith, key, holds)
some_rule P id (x ∷ xs) (suc k, a, inside, at, holds) =
    let more = some_rule P id xs (k, a, omega arith, at, holds) in grind (arith, more)

-- the parser of the rule takes the value
abbrev pub Accepted : Text → Rule → Type 0
Accepted v r = (parser : ValueParser) → r.parser ≡ Some parser → Accepts r.ignore_case parser v

-- the parser of the rule reads values in this way
abbrev pub ReadHow : Reading → Rule → Type 0
ReadHow how r = (parser : ValueParser) → r.parser ≡ Some parser → reading_of parser ≡ how

-- building keeps both
accepted_before : (v : Text) (a b : Arg) → SameRules a b → Accepts b.ignore_case (parser_of b) v
    → Accepted v (rule_of a)
accepted_before v a b same accepts parser is = rw (same.parser parser is, same.ignore_case) at accepts

read_before : (how : Reading) (a b : Arg) → SameRules a b → reading_of (parser_of b) ≡ how → ReadHow how (rule_of a)
read_before how a b same read parser is = rw (same.parser parser is) at read

-- an id that is no group's, and of neither flag that building adds
abbrev IsOwn : Text → Type 0
IsOwn id = (bytes_eq id [] ≡ false) × (bytes_eq id (codes "help") ≡ false) × (bytes_eq id (codes "version") ≡ false)

differs : (x y : Text) → bytes_eq x y ≡ false → x ≡ y → ⊥
differs x y e same = let same_by = bytes_eq-Decides x y in grind (arith, same_by, e, same)

-- the text that a getter reads is a value that passed a rule of its id, read as such a rule says
record ReadByRules (rules : List Rule) (id text : Text) : Type 0 where
  value : Text
  how : Reading
  is : text ≡ read_as how value
  accepted : SomeRule (Accepted value) id rules
  read : SomeRule (ReadHow how) id rules

module _ (c new : Command) (builds : BuildsTo c new) (f : Found) (passes : ValuesPass new f)
    (no_groups : groups_of new ≡ []) (id : Text) (own : IsOwn id) where
  -- an argument of this id after building was there before it
  arg_before : (P : Arg → Type 0) (Q : Rule → Type 0) → ((a b : Arg) → SameRules a b → P b → Q (rule_of a))
      → Any (λ b. (bytes_eq b.id.now id ≡ true) × P b) (args_of new) → SomeRule Q id (map rule_of (args_of c))
  arg_before P Q before (k, b, inside, at, (is_id, p)) = elim (cases_lt k (length (args_of c))) [
    | inl under ↦
        let a = slice_index_or (args_of c) k b in
        let same : SameRules a b = subst (SameRules a) at (builds.kept k b under).1 in
        let there = get_or_default (args_of c) k a b under in
        let key = subst (λ (i : Bor Text). bytes_eq i.now id ≡ true) same.id is_id in
        some_rule Q id (args_of c) (k, a, under, there, (key, before a b same p))
    | inr over ↦
        let is : id ≡ b.id.now = sym ((bytes_eq-Decides b.id.now id).0 is_id) in
        elim (subst IsAuto at (builds.extra k b over inside)) [
          | inl help ↦ absurd (differs id (codes "help") own.1 (is ∙ help))
          | inr version ↦ absurd (differs id (codes "version") own.2 (is ∙ version))
        ]
  ]

  first_read : (x : MatchedArg) (e : Entry) → e.1 ≡ x → e.0.now ≡ id → EntryPasses new e
      → IfSome (option_map (λ s. read_as x.reading s.now) (slice_get x.vals.items 0))
      (ReadByRules (map rule_of (args_of c)) id)
  first_read x e same_x key pass =
      let (values, filled, counts, groups, reads) = pass in
      let no_group : e.1.is_group ≡ true → ⊥ = λ g. elim (groups g) [
        | inl empty ↦ differs id [] own.0 (sym key ∙ empty)
        | inr lots ↦
            let bad : 0 < 0 = rw no_groups at lots in
            absurd (omega arith)
      ] in
      let all : All (λ v. PassesArg new id v.now) x.vals.items = elim values [
        | inl g ↦ absurd (no_group g)
        | inr vals ↦ subst (λ (w : Text). All (λ v. PassesArg new w v.now) x.vals.items) key (rw same_x at vals)
      ] in
      let how : HasReading new id x.reading = elim reads [
        | inl g ↦ absurd (no_group g)
        | inr h ↦ subst (λ (y : MatchedArg). HasReading new id y.reading) same_x
            (subst (λ (w : Text). HasReading new w e.1.reading) key h)
      ] in
      go x.vals.items all how
    where
      go : (vs : List (Bor Text)) → All (λ v. PassesArg new id v.now) vs → HasReading new id x.reading
          → IfSome (option_map (λ s. read_as x.reading s.now) (slice_get vs 0))
          (ReadByRules (map rule_of (args_of c)) id)
      go [] all how = tt
      go (v ∷ vs) all how =
          let passes = All-get_or (λ v. PassesArg new id v.now) (v ∷ vs) 0 v (omega arith) all in
          record {
            value = v.now;
            how = x.reading;
            is = refl;
            accepted = arg_before _ (Accepted v.now) (accepted_before v.now) passes;
            read = arg_before _ (ReadHow x.reading) (read_before x.reading) how;
          }

  text_by_rules : IfSome (one_text f id) (ReadByRules (map rule_of (args_of c)) id)
  text_by_rules = go (matched_of f id) refl
    where
      go : (o : Option MatchedArg) → matched_of f id ≡ o
          → IfSome (one_text f id) (ReadByRules (map rule_of (args_of c)) id)
      go None e = rw e tt
      go (Some x) e =
          let (entry, same, key, pass) = entry_by_id (EntryPasses new) f.entries.items id x passes e in
          rw e (first_read x entry same ((bytes_eq-Decides entry.0.now id).0 key) pass)

-- ---- numbers

-- a text in a range with no negative number reads as a number in it
signed_number : (low high : ℕ) (v : Text) → IsSignedIn (pos low) (pos high) v → IsNumberIn low high (without_minus v)
signed_number low high [] passed = grind (arith, nat_tests, ints, passed)
signed_number low high (d ∷ ds) passed =
    let digit = digit_from_value in grind (arith, nat_tests, ints, passed, digit)

-- ---- this command

abbrev rules : List Rule
rules = (built command_line).top.rules

number_holds : (f : Found) (id : Text) (low high : ℕ) → IfSome (one_text f id) (ReadByRules rules id)
    → ((v : Text) → SomeRule (Accepted v) id rules → IsSignedIn (pos low) (pos high) v)
    → ((how : Reading) → SomeRule (ReadHow how) id rules → reading.WithoutMinus ≡ how)
    → HoldsNumber low high id f
number_holds f id low high read accepted how = IfSome_then (one_text f id) read (λ text h.
    let is : text ≡ without_minus h.value = h.is ∙ ap (λ r. read_as r h.value) (sym (how h.how h.read)) in
    rw is (signed_number low high h.value (accepted h.value h.accepted)))

only : {A : Type 0} → A ⊎ ⊥ → A
only (inl a) = a
only (inr b) = absurd b

bool_texts : (v : Text) → (bytes_eq v (codes "true") || bytes_eq v (codes "false")) ≡ true
    → (v ≡ codes "true") ⊎ (v ≡ codes "false")
bool_texts v h =
    let on = bytes_eq-Decides v (codes "true") in
    let off = bytes_eq-Decides v (codes "false") in grind (arith, h, on, off)

flag_holds : (f : Found) → IfSome (one_text f (codes "escapes")) (ReadByRules rules (codes "escapes"))
    → IfSome (one_text f (codes "escapes")) (λ t. (t ≡ codes "true") ⊎ (t ≡ codes "false"))
flag_holds f read = IfSome_then (one_text f (codes "escapes")) read (λ text h.
    let is : text ≡ h.value = h.is ∙ ap (λ r. read_as r h.value) (sym (only h.read _ refl)) in
    rw is (bool_texts h.value (only h.accepted _ refl)))

-- a parse that succeeds with the built command has checked the numbers and the switch
pub values_hold : (c : Command) (m : ArgMatches) → app_of c ≡ built command_line → IsParsedFrom c m
    → HoldsValues (found_of m)
values_hold c m is parse =
    let f = found_of m in
    let is_plain : has_plain_fields (out-Command c) ≡ true = ap (λ (a : App). a.top.is_plain) is in
    let parts = both _ _ is_plain in
    let no_group_names = simple_groups c (ap (λ (a : App). list_all (λ r. r.is_simple) a.top.rules) is) in
    let no_groups : groups_of parse.built ≡ [] =
    (parse.from.same_groups no_group_names).1 ∙ is_nil _ parts.0 in
    let no_globals : (out-Command parse.built).has_globals ≡ false =
    parse.from.globals ∙ is_false _ (both _ _ (both _ _ parts.1).1).0 in
    let same : map rule_of (args_of c) ≡ rules = ap (λ (a : App). a.top.rules) is in
    let read : (id : Text) → IsOwn id → IfSome (one_text f id) (ReadByRules rules id) =
    λ id own. subst (λ rs. IfSome (one_text f id) (ReadByRules rs id)) same
    (text_by_rules c parse.built parse.from f (parse.parsed no_globals).values no_groups id own) in
    record {
      scale = number_holds f (codes "scale") 1 8 (read (codes "scale") (refl, refl, refl)) (λ v h. only h _ refl)
          (λ how h. only h _ refl);
      height = number_holds f (codes "height") 1 500 (read (codes "height") (refl, refl, refl)) (λ v h. only h _ refl)
          (λ how h. only h _ refl);
      min_version = number_holds f (codes "min-version") 1 10 (read (codes "min-version") (refl, refl, refl))
          (λ v h. only h _ refl) (λ how h. only h _ refl);
      mask = number_holds f (codes "mask") 0 7 (read (codes "mask") (refl, refl, refl)) (λ v h. only h _ refl)
          (λ how h. only h _ refl);
      escapes = flag_holds f (read (codes "escapes") (refl, refl, refl));
    }

-- a build builds the command line, or breaks it
pub built_or_broken : {V E : Type 0} (old new : Command) (result : Result V E) → app_of old ≡ command_line
    → OnOk result (is_buildable (app_of old) ≡ true → app_of new ≡ built (app_of old))
    → OnErr result (is_broken new ≡ true) → (app_of new ≡ built command_line) ⊎ (is_broken new ≡ true)
built_or_broken old new (Ok v) is shape broken = inl (shape (ap is_buildable is) ∙ ap built is)
built_or_broken old new (Err e) is shape broken = inr broken

-- ---- what a refused parse returns

-- a parse whose error has one of at most one kind is refused by that kind
pub refused : (kinds : Kinds) (rows : List Row) (e : Error) (fault : WordsFault) → IsOneAtMost kinds
    → HasKind kinds e → (kind_of e ≡ OutOfMemory → fault ≡ Memory) → Refuses (invocation_refused (kind_of e)) fault
    → Chooses (invocation_by kinds rows) (Err fault)
unfolding IsOneAtMost
refused kinds rows e fault one has as_memory other = grind (arith, one, has, as_memory, other)
