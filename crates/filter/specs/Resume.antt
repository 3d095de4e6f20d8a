-- A run in parts, and one that goes on after a fault (docs/SPECIFICATION.md, The filter as a library).
-- Why: `ResumingLaws`: what the manual says to do after a fault, the recipe with GNU parallel; the theorem
-- `resuming_laws`.
use Rattle.std.specs.Prelude.{◌≡◌, ℕ, List, [], ◌∷◌, ◌++◌, length}
use Rattle.labelcore.specs.Lines.{lines, ended_lines, open_line}
use Rattle.labelcore.specs.declared.options.Options.{Options}
use Rattle.filter.specs.Output.{Event, Images, ended_script, events_after, flushes, script, sent}

-- the script of a text that comes after `before` lines: its line numbers are higher by as many
abbrev pub script_after : Options → ℕ → List ℕ → List Event
script_after options before text = events_after options before (lines text) ++ flushes ∷ []

-- Where these events of a text's script are done, the text has a front whose lines they are. The rest of the text, run
-- again, sends all the later events, with its line numbers higher, and so all the later images.
pub record Resumes (options : Options) (text : List ℕ) (done : List Event) : Type 0 where
  pub front : List ℕ
  pub rest : List ℕ
  pub cut : text ≡ front ++ rest
  pub is_done : done ≡ events_after options 0 (lines front)
  pub events : script options text ≡ done ++ script_after options (length (lines front)) rest
  pub images : sent options.run Images (script options text)
      ≡ sent options.run Images done ++ sent options.run Images (script options rest)

-- What runs over the parts of a text send. Where the text is cut after a line feed, its script is that of the first part
-- and then that of the second, with higher line numbers; images have none. And wherever a run stopped, it can go on.
pub record ResumingLaws (options : Options) : Type 0 where
  pub cut : (first second : List ℕ) → open_line first ≡ [] → script options (first ++ second)
      ≡ ended_script options first ++ script_after options (length (ended_lines first)) second
  pub images : (before : ℕ) (text : List ℕ)
      → sent options.run Images (script_after options before text) ≡ sent options.run Images (script options text)
  pub resumed : (text : List ℕ) (done later : List Event) (event : Event)
      → script options text ≡ done ++ event ∷ later → Resumes options text done
