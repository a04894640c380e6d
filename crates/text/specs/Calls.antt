-- Later lines, and what they say.
use Rattle.std.specs.Prelude.{ℕ, cond, List, Some, None, Ok, Err, codes, Option, Result}
use Rattle.std.specs.Str.{bytes_eq}
use Rattle.formulas.specs.Reading.{Outcome, parsed, Reader, bind, the_end}
use Rattle.lines.specs.declared.faults.LineFault.{LineFault}
use Rattle.lines.specs.Faults.{of_line}
use Rattle.lines.specs.Reading.{following}
use Rattle.lines.specs.Firsts.{Answer, refused, accepted, answer, first_word}
use Rattle.text.specs.declared.calls.Call.{Call}
use Rattle.text.specs.declared.calls.Call.TheVariants as call

-- what a later line says
pub data Request : Type 0 where
  verdict : Request

-- the words that a later line begins with
unfoldable pub call_word : List ℕ → Option Request
call_word w = cond (bytes_eq w (codes "verdict")) (Some verdict) None

-- nothing follows such a word
abbrev pub call_rest : Request → Reader Request
call_rest q ps = bind (the_end ps) (λ _. parsed q)

-- a later line
abbrev pub call_of : List ℕ → Outcome Request
call_of line = following call_word call_rest (first_word line)

-- what is answered to it
abbrev pub read_call : List ℕ → Answer Request
read_call line = answer (call_of line)

-- what a call says
abbrev pub request_for : Call → Request
request_for call.Verdict = verdict

-- the answer that a result is
abbrev pub request_of : Result Call LineFault → Answer Request
request_of (Ok x) = accepted (request_for x)
request_of (Err e) = refused (of_line e)
