-- The plain spelling of a configuration: the whole text of a trace. Source: this project's own.
use Rattle.std.specs.Prelude.{ℕ, List, [], ◌∷◌, ◌++◌, map, flat_map, codes}
use Rattle.vm_types.specs.declared.config.Config.{Config}
use Rattle.vm_text.specs.Spaced.{spaced}
use Rattle.trace_spelling.specs.Lines.{Line, header_lines, param_lines, bad_line, section_line, data_lines, process_lines, map_line, fail_line, request_line}

-- the words, with a blank between each two
abbrev pub line_text : Line → List ℕ
line_text [] = []
line_text (word ∷ words) = word ++ spaced words

-- the lines, each with byte 10 behind it
abbrev pub text_of : List Line → List ℕ
text_of [] = []
text_of (line ∷ lines) = line_text line ++ 10 ∷ text_of lines

-- what is declared before BODY
abbrev pub declaration_lines : Config → List Line
declaration_lines config =
    param_lines config.params
    ++ map bad_line config.bad
    ++ map section_line config.sections
    ++ flat_map data_lines config.sections
    ++ process_lines 0 config.procs
    ++ map (map_line config.sections) config.maps
    ++ map (fail_line config.sections) config.fails

-- all lines
abbrev pub lines_of : Config → List Line
lines_of config =
    header_lines config
    ++ declaration_lines config
    ++ (codes "BODY" ∷ []) ∷ map request_line config.body
    ++ (codes "END" ∷ []) ∷ []

unfoldable pub spelling : Config → List ℕ
spelling config = text_of (lines_of config)
