-- How a page looks: its head, the style of what it shows, and the heads of the arrows.
use Rattle.std.specs.Prelude.{ℕ, List, [], ◌∷◌, ◌++◌, codes}
use Rattle.reason_text.specs.Phrases.{phrases_text}
use Rattle.reason_text.specs.declared.phrases.Head.TheVariants.{Nothing}

-- the head of the page
unfoldable pub head : List ℕ
head =
    phrases_text
    ((Nothing, codes "<!doctype html>\n")
    ∷ (Nothing, codes "<html lang='en'>\n")
    ∷ (Nothing, codes "<meta charset='utf-8'>\n")
    ∷ (Nothing, codes "<meta name='viewport' content='width=device-width'>\n")
    ∷ (Nothing, codes "<title>dtx</title>\n")
    ∷ [])

-- the colours, and the style of the words beside the pictures
unfoldable pub colours : List ℕ
colours =
    phrases_text
    ((Nothing, codes "<style>\n")
    ∷ (Nothing, codes ":root{color-scheme:light dark;--ink:#222;--paper:#fff;--soft:#777;--rule:#bbb;--run:#446;--good:#187a3a;--bad:#b02020;--doubt:#946200;--client:#e8f0fb;--list:#f4ecf9;--side:#fdf3e1}\n")
    ∷ (Nothing, codes "@media(prefers-color-scheme:dark){:root{--ink:#ddd;--paper:#181a1f;--soft:#999;--rule:#555;--run:#aab8d8;--good:#5cc47f;--bad:#f07a7a;--doubt:#e0aa45;--client:#22344f;--list:#3a2a47;--side:#47391f}}\n")
    ∷ (Nothing, codes "body{font:14px/1.45 system-ui,sans-serif;margin:20px;color:var(--ink);background:var(--paper)}\n")
    ∷ (Nothing, codes "h2{font-size:16px;margin:28px 0 6px}\n")
    ∷ (Nothing, codes "p{margin:2px 0;padding:5px 10px;border-left:4px solid var(--soft);background:color-mix(in srgb,var(--soft) 10%,var(--paper))}\n")
    ∷ (Nothing, codes "p.committed{border-color:var(--good)}p.aborted{border-color:var(--bad)}p.indoubt{border-color:var(--doubt)}\n")
    ∷ [])

-- the style of the words of a picture
unfoldable pub words_style : List ℕ
words_style =
    phrases_text
    ((Nothing, codes "div,pre{overflow-x:auto;margin-top:10px}\n")
    ∷ (Nothing, codes "pre{font:12px/1.4 ui-monospace,monospace}\n")
    ∷ (Nothing, codes "svg text{font:11px ui-monospace,monospace;fill:var(--ink);stroke:var(--paper);stroke-width:3px;paint-order:stroke}\n")
    ∷ (Nothing, codes "svg .title{font-weight:bold;text-anchor:middle;stroke:none}\n")
    ∷ (Nothing, codes "svg .number{fill:var(--soft);text-anchor:end;transform:translateY(4px)}\n")
    ∷ (Nothing, codes "svg .event{fill:var(--soft);font-style:italic;transform:translate(8px,4px)}\n")
    ∷ (Nothing, codes "svg .note{fill:var(--soft);transform:translate(8px,4px)}\n")
    ∷ (Nothing, codes "svg .decided{font-weight:bold;transform:translate(8px,4px)}\n")
    ∷ (Nothing, codes "svg .after{transform:translate(8px,-4px)}\n")
    ∷ (Nothing, codes "svg .before{text-anchor:end;transform:translate(-8px,-4px)}\n")
    ∷ (Nothing, codes "svg text.cut{fill:var(--bad);text-anchor:middle;transform:translateY(-3px)}\n")
    ∷ (Nothing, codes "svg .ended{fill:var(--bad);transform:translate(10px,4px)}\n")
    ∷ (Nothing, codes "svg text.still{stroke:none;transform:translate(-2px,4px)}\n")
    ∷ [])

-- the style of its lines and boxes
unfoldable pub lines_style : List ℕ
lines_style =
    phrases_text
    ((Nothing, codes "svg path{fill:none;stroke:var(--run);stroke-width:1.2}\n")
    ∷ (Nothing, codes "svg .lane{stroke:var(--rule);stroke-dasharray:3 3}\n")
    ∷ (Nothing, codes "svg .box{fill:var(--paper);stroke:var(--soft);rx:5px;transform:translateX(-50px)}\n")
    ∷ (Nothing, codes "svg .client{fill:var(--client)}svg .enlistment{fill:var(--list)}svg .side{fill:var(--side)}\n")
    ∷ (Nothing, codes "svg .arrow{marker-end:url(#run)}\n")
    ∷ (Nothing, codes "svg path.committed{stroke:var(--good);marker-end:url(#good)}svg text.committed{fill:var(--good)}\n")
    ∷ (Nothing, codes "svg path.aborted{stroke:var(--bad);marker-end:url(#bad)}svg text.aborted{fill:var(--bad)}\n")
    ∷ (Nothing, codes "svg path.indoubt{stroke:var(--doubt);marker-end:url(#doubt)}svg text.indoubt{fill:var(--doubt)}\n")
    ∷ [])

-- the style of what is lost, cut or stopped, and of the heads of the arrows
unfoldable pub marks_style : List ℕ
marks_style =
    phrases_text
    ((Nothing, codes "svg .lost{stroke:var(--bad);stroke-dasharray:4 3;marker-end:url(#cross)}\n")
    ∷ (Nothing, codes "svg path.cut{stroke:var(--bad);stroke-dasharray:2 3}\n")
    ∷ (Nothing, codes "svg .end{marker-end:url(#cross)}\n")
    ∷ (Nothing, codes "svg path.still{stroke:var(--side);stroke-width:17;stroke-linecap:square}\n")
    ∷ (Nothing, codes "#run{fill:var(--run)}#good{fill:var(--good)}#bad{fill:var(--bad)}#doubt{fill:var(--doubt)}\n")
    ∷ (Nothing, codes "svg marker path{fill:inherit;stroke:none}\n")
    ∷ (Nothing, codes "svg #cross path{stroke:var(--bad);stroke-width:1.6}\n")
    ∷ [])

-- the heads of the arrows
unfoldable pub heads : List ℕ
heads =
    phrases_text
    ((Nothing, codes "</style>\n")
    ∷ (Nothing, codes "<svg width='0' height='0' style='position:absolute'><defs>\n")
    ∷ (Nothing, codes "<marker id='run' viewBox='0 0 8 8' refX='8' refY='4' markerWidth='8' markerHeight='8' markerUnits='userSpaceOnUse' orient='auto'><path d='M0 0L8 4L0 8z'/></marker>\n")
    ∷ (Nothing, codes "<marker id='good' viewBox='0 0 8 8' refX='8' refY='4' markerWidth='8' markerHeight='8' markerUnits='userSpaceOnUse' orient='auto'><path d='M0 0L8 4L0 8z'/></marker>\n")
    ∷ (Nothing, codes "<marker id='bad' viewBox='0 0 8 8' refX='8' refY='4' markerWidth='8' markerHeight='8' markerUnits='userSpaceOnUse' orient='auto'><path d='M0 0L8 4L0 8z'/></marker>\n")
    ∷ (Nothing, codes "<marker id='doubt' viewBox='0 0 8 8' refX='8' refY='4' markerWidth='8' markerHeight='8' markerUnits='userSpaceOnUse' orient='auto'><path d='M0 0L8 4L0 8z'/></marker>\n")
    ∷ (Nothing, codes "<marker id='cross' viewBox='0 0 12 12' refX='6' refY='6' markerWidth='12' markerHeight='12' markerUnits='userSpaceOnUse'><path d='M1 1L11 11M11 1L1 11'/></marker>\n")
    ∷ (Nothing, codes "</defs></svg>\n")
    ∷ [])

-- what a page begins with
abbrev pub style : List ℕ
style = head ++ (colours ++ (words_style ++ (lines_style ++ (marks_style ++ heads))))
