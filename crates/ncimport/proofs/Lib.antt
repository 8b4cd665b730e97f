mod FileNames
mod FilePlaces
mod Gathered
mod Imported
mod NotedTexts
mod ResultTexts
