-- Call lines, what they say, and what the node list then holds.
use Rattle.std.specs.Prelude.{◌≡◌, ℕ, false, cond, List, [], Some, None, Ok, Err, codes, Option, Result}
use Rattle.std.specs.Str.{bytes_eq}
use Rattle.theory.specs.declared.node.Node.{Node}
use Rattle.formulas.specs.Reading.{Outcome, fault, parsed, Reader, bind, the_end}
use Rattle.formulas.specs.Sentences.{Sentence}
use Rattle.formulas.specs.Readers.{a_formula}
use Rattle.formulas.specs.Stores.{Store, write, last}
use Rattle.lines.specs.declared.faults.LineFault.{LineFault}
use Rattle.lines.specs.declared.calls.Call.{Call}
use Rattle.lines.specs.declared.calls.Call.TheVariants as call
use Rattle.lines.specs.declared.calls.CallWord.{CallWord}
use Rattle.lines.specs.declared.calls.CallWord.TheVariants as asks
use Rattle.lines.specs.Faults.{of_line}
use Rattle.lines.specs.Reading.{following}
use Rattle.lines.specs.Firsts.{Answer, refused, accepted, first_word}

-- what a later line asks for: at which worlds a sentence holds, or the verdict
pub data Request : Type 0 where
  marks : Sentence → Request
  verdict : Request

-- the words that a later line begins with
unfoldable pub call_word : List ℕ → Option CallWord
call_word w =
    cond (bytes_eq w (codes "where")) (Some asks.Where)
    (cond (bytes_eq w (codes "verdict")) (Some asks.Verdict) None)

-- what follows each of them
abbrev pub call_rest : CallWord → Reader Request
call_rest asks.Where ps = bind (a_formula ps) (λ x r. bind (the_end r) (λ _. parsed (marks x)))
call_rest asks.Verdict ps = bind (the_end ps) (λ _. parsed verdict)

-- a later line
abbrev pub call_of : List ℕ → Outcome Request
call_of line = following call_word call_rest (first_word line)

-- nodes of which each found a place
abbrev pub holding : List Node → Store
holding ns = record { nodes = ns; full = false }

-- the nodes of a request are written behind those that are there
abbrev pub writing : Request → Store → Store
writing (marks x) s = write x s
writing verdict s = s

-- a line without a fault is refused where its nodes find no place
abbrev pub unless_full : List Node → Outcome Request → Answer Request
unless_full ns (fault e) = refused e
unless_full ns (parsed q ps) = cond (writing q (holding ns)).full (refused (record { number = 16; column = 0 })) (accepted q)

-- what is answered to a line, where the list holds nodes already
abbrev pub read_call : List ℕ → List Node → Answer Request
read_call line ns = unless_full ns (call_of line)

-- the nodes once an answer is given: a refusal puts them back
abbrev pub nodes_with : List Node → Answer Request → List Node
nodes_with ns (refused e) = ns
nodes_with ns (accepted q) = (writing q (holding ns)).nodes

abbrev pub nodes_after : List ℕ → List Node → List Node
nodes_after line ns = nodes_with ns (read_call line ns)

-- a request as the code has it, where the nodes of its sentence were written last
abbrev pub call_for : Store → Request → Call
call_for t (marks x) = call.Where (last t)
call_for t verdict = call.Verdict

-- an answer as the code has it
abbrev pub calling : Store → Answer Request → Answer Call
calling t (refused e) = refused e
calling t (accepted q) = accepted (call_for t q)

-- the answer that a result is
abbrev pub answer_of : Result Call LineFault → Answer Call
answer_of (Ok x) = accepted x
answer_of (Err e) = refused (of_line e)

-- the request that was read
abbrev pub request_of : Outcome Request → Request
request_of (fault e) = verdict
request_of (parsed q ps) = q

-- a call was read to the end of its line, and its nodes were written
pub record Called (o : Outcome Request) (x : Call) (s t : Store) : Type 0 where
  pub is : o ≡ parsed (request_of o) []
  pub writes : t ≡ writing (request_of o) s
  pub calls : x ≡ call_for t (request_of o)
