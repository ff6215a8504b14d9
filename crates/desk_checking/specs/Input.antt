-- How large an input may be that is checked, and where its model stands.
use Rattle.std.specs.Prelude.{ℕ, ◌^◌, ◌==◌, Bool, not, List, [], drop, take, if◌then◌else◌}
use Rattle.std.specs.List.{prefix_len}
use Rattle.desk_lines.specs.Lines.{lines_of, newline}
use Rattle.desk_checking.specs.declared.options.CheckOptions.{CheckOptions}

-- 64 MiB
abbrev pub most_bytes : ℕ
most_bytes = 2 ^ 26

-- whether a byte is no newline
abbrev pub goes_on : ℕ → Bool
goes_on b = not (b == newline)

abbrev pub first_line : List ℕ → List ℕ
first_line text = take (prefix_len goes_on text) text

-- the text of the model in an input: the first line where requests stand behind it, and otherwise all
abbrev pub model_text : CheckOptions → List ℕ → List ℕ
model_text options text = if options.requests then first_line text else text

-- what stands behind the first newline
abbrev pub behind_first_line : List ℕ → List ℕ
behind_first_line text = drop 1 (drop (prefix_len goes_on text) text)

-- the lines of requests in an input: those behind the first, where the options say that there are requests
abbrev pub request_lines : CheckOptions → List ℕ → List (List ℕ)
request_lines options text = if options.requests then lines_of (behind_first_line text) else []
